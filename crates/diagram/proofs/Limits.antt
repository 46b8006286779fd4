-- Edges of at most 20 marks, and stores whose diamonds have no more.
use Rattle.std.proofs.Common.{◌≡◌, ℕ, ◌≤◌, Bool, true, false, cond, leb, Some, None, Option, ap, ◌∙◌, arith}
use Rattle.std.proofs.lemmas.Bool.{leb-true, le-leb, and_from, and_parts}
use Rattle.diagram.specs.Rules.{constant, ◌⋆◌, arity}
use Rattle.diagram.specs.Edges.{Edge, pair, Store, flip, diamond_rule, rule_of}
use Rattle.diagram.specs.declared.meanings.Meaning.{Meaning}
use Rattle.diagram.specs.Making.{choose, find, seat, add, flipped, make_by, make, insert}
use Rattle.diagram.specs.Acceptance.{Shallow, accepts}
use Rattle.diagram.specs.Theorems.{AcceptableTold, AcceptableTested}
use Rattle.diagram.proofs.Notions.{InsertShallow}
use Rattle.diagram.proofs.Laws.{arity_negate, sense_flip}
use Rattle.diagram.proofs.Sound.{rule_grown, insert_sound}
use Rattle.diagram.proofs.Told.{accepted_told}
use Rattle.diagram.proofs.Decides.{accepts_right}

pub acceptable_told : AcceptableTold
acceptable_told D law s ns e =
    let x = accepted_told D law s ns e in
    (λ a. (a.short, x.0 a.accepted), λ p. record { accepted = x.1 p.1; short = p.0 })

pub acceptable_right : AcceptableTested
acceptable_right D s e =
    let x = accepts_right D s e in
    let n = arity (rule_of s e) in (
      λ p.
          record {
            accepted = x.0 (and_parts (accepts D s e) (leb n 20) p).0;
            short = leb-true n 20 (and_parts (accepts D s e) (leb n 20) p).1;
          },
      λ a. and_from (accepts D s e) (leb n 20) (x.1 a.accepted) (le-leb n 20 a.short),
    )

-- Shallow stores --

flip_arity : (s : Store) (e : Edge) (n : ℕ) → arity (rule_of s e) ≤ n → arity (rule_of s (flip e)) ≤ n
flip_arity s e n h = let p = ap arity (sense_flip (diamond_rule s) e) ∙ arity_negate (rule_of s e) in omega arith

module _ (s : Store) (sh : Shallow s) where
  seat_shallow : (o : Option ℕ) (l h : Edge) → arity (rule_of s l) ≤ 19 → arity (rule_of s h) ≤ 19 → Shallow (seat o s (pair l h)).0
  seat_shallow None l h i j = (sh, i, j)
  seat_shallow (Some k) l h i j = sh

  diamond_shallow : (b : Bool) (l h : Edge) → arity (rule_of s l) ≤ 19 → arity (rule_of s h) ≤ 19 → Shallow (cond b (flipped (add s (flip l) (flip h))) (add s l h)).0
  diamond_shallow true l h i j = seat_shallow (find s (pair (flip l) (flip h))) (flip l) (flip h) (flip_arity s l 19 i) (flip_arity s h 19 j)
  diamond_shallow false l h i j = seat_shallow (find s (pair l h)) l h i j

  make_shallow_by : (o : Option Edge) (l h : Edge) → arity (rule_of s l) ≤ 19 → arity (rule_of s h) ≤ 19 → Shallow (make_by o s l h).0
  make_shallow_by None l h i j = diamond_shallow l.negated l h i j
  make_shallow_by (Some e) l h i j = sh

  pub make_shallow : (D : Meaning) (l h : Edge) → arity (rule_of s l) ≤ 19 → arity (rule_of s h) ≤ 19 → Shallow (make D s l h).0
  make_shallow D l h i j = make_shallow_by (choose D l h) l h i j

pub insert_shallow : InsertShallow
insert_shallow D law s ns sh (constant b) ev i = sh
insert_shallow D law s ns sh (f ⋆ g) ev i =
    let a = insert D s f in
    let x = insert_sound D law s ns f ev.0 in
    let b = insert D a.0 g in
    let y = insert_sound D law a.0 x.normal g ev.1 in
    let p : arity (rule_of b.0 a.1) ≡ arity f = ap arity (rule_grown D a.0 b.0 a.1 y.grown x.accepted ∙ x.rule) in
    let q : arity (rule_of b.0 b.1) ≡ arity g = ap arity y.rule in
    let e = ev.2 in
    let sa = insert_shallow D law s ns sh f ev.0 (omega arith) in
    let sb = insert_shallow D law a.0 x.normal sa g ev.1 (omega arith) in
    make_shallow b.0 sb D a.1 b.1 (omega arith) (omega arith)
