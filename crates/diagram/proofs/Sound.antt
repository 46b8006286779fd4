-- Making and inserting keep a store normal, only add diamonds, and give an accepted edge that means what it should.
use Rattle.std.proofs.Common.{◌≡◌, ℕ, ◌<◌, Bool, true, false, cond, not, List, [], ◌∷◌, ◌++◌, length, Some, None, Option, sym, refl, ap, ◌∙◌, subst, ap₂, append_assoc, arith}
use Rattle.std.proofs.lemmas.Bool.{eq-eqb, ne_eqb}
use Rattle.diagram.specs.Rules.{Rule, constant, ◌⋆◌, arity, negate}
use Rattle.diagram.specs.Edges.{Edge, Diamond, pair, Store, flip, diamond_rule, rule_of, same_diamond}
use Rattle.diagram.specs.declared.meanings.Meaning.{Meaning}
use Rattle.diagram.specs.Dialects.{Lawful}
use Rattle.diagram.specs.Making.{choose, find, diamond_edge, Made, seat, add, flipped, make_by, make, insert}
use Rattle.diagram.specs.Acceptance.{Accepted, Addable, Normal, Grown, Sound}
use Rattle.diagram.specs.Theorems.{InsertSound}
use Rattle.diagram.proofs.Laws.{negate_negate, arity_negate, sense_flip, sense_flat, same_diamond_eq}
use Rattle.diagram.proofs.Signs.{flip?, choose_flip}
use Rattle.diagram.proofs.Split.{rule_more, accepted_more, flat_accepted, accepted_flip}
use Rattle.diagram.proofs.Fits.{lettered, lettered_rule, lettered_accepted}

-- Growing --

accepted-++ : (D : Meaning) (ns : List Diamond) (s : Store) (e : Edge) → Accepted D s e → Accepted D (ns ++ s) e
accepted-++ D [] s e a = a
accepted-++ D (n ∷ ns) s e a = accepted_more D n (ns ++ s) e (accepted-++ D ns s e a)

rule-++ : (D : Meaning) (ns : List Diamond) (s : Store) (e : Edge) → Accepted D s e → rule_of (ns ++ s) e ≡ rule_of s e
rule-++ D [] s e a = refl
rule-++ D (n ∷ ns) s e a = rule_more n (ns ++ s) e (accepted-++ D ns s e a).within ∙ rule-++ D ns s e a

pub accepted_grown : (D : Meaning) (s s' : Store) (e : Edge) → Grown s s' → Accepted D s e → Accepted D s' e
accepted_grown D s s' e g a = subst (λ (z : Store). Accepted D z e) (sym g.1) (accepted-++ D g.0 s e a)

pub rule_grown : (D : Meaning) (s s' : Store) (e : Edge) → Grown s s' → Accepted D s e → rule_of s' e ≡ rule_of s e
rule_grown D s s' e g a = ap (λ (z : Store). rule_of z e) g.1 ∙ rule-++ D g.0 s e a

pub grown_trans : (r s t : Store) → Grown r s → Grown s t → Grown r t
grown_trans r s t g h = (h.0 ++ g.0, h.1 ∙ ap (λ (z : Store). h.0 ++ z) g.1 ∙ sym (append_assoc h.0 g.0 r))

-- Nodes --

pub record At (D : Meaning) (s : Store) (n : Diamond) (k : ℕ) : Type 0 where
  pub less : k < length s
  pub low_accepted : Accepted D s n.low
  pub high_accepted : Accepted D s n.high
  pub rule : diamond_rule s k ≡ rule_of s n.low ⋆ rule_of s n.high

at_last : (D : Meaning) (m : Diamond) (s : Store) → Addable D s m → At D (m ∷ s) m (length s)
at_last D m s a =
    let p = rule_more m s m.low a.low_accepted.within in
    let r = rule_more m s m.high a.high_accepted.within in
    record {
      less = omega arith;
      low_accepted = accepted_more D m s m.low a.low_accepted;
      high_accepted = accepted_more D m s m.high a.high_accepted;
      rule = rw (eq-eqb (length s) (length s) refl) (ap₂ ◌⋆◌ (sym p) (sym r));
    }

at_before : (D : Meaning) (m n : Diamond) (s : Store) (k : ℕ) → At D s n k → At D (m ∷ s) n k
at_before D m n s k x =
    let p = rule_more m s n.low x.low_accepted.within in
    let r = rule_more m s n.high x.high_accepted.within in
    let i = ne_eqb k (length s) (omega (arith, x.less)) in
    let j = x.less in
    record {
      less = omega arith;
      low_accepted = accepted_more D m s n.low x.low_accepted;
      high_accepted = accepted_more D m s n.high x.high_accepted;
      rule = rw i (x.rule ∙ ap₂ ◌⋆◌ (sym p) (sym r));
    }

pub find_at : (D : Meaning) (s : Store) (n : Diamond) (k : ℕ) → Normal D s → find s n ≡ Some k → At D s n k
find_at D [] n k ns e = absurd cc
find_at D (m ∷ s) n k ns e = go (same_diamond m n) refl e (λ q. find_at D s n k ns.0 q)
  where
    go : (b : Bool) → same_diamond m n ≡ b → cond b (Some (length s)) (find s n) ≡ Some k → (find s n ≡ Some k → At D s n k) → At D (m ∷ s) n k
    go true t p ih =
        let q : length s ≡ k = cc in
        subst (λ (i : ℕ). At D (m ∷ s) n i) q (subst (λ (j : Diamond). At D (m ∷ s) j (length s)) (same_diamond_eq m n t) (at_last D m s ns.1))
    go false t p ih = at_before D m n s k (ih p)

-- Making --

pub diamond_accepted : (D : Meaning) (s : Store) (k : ℕ) → k < length s → Accepted D s (diamond_edge k)
diamond_accepted D s k i =
    record { within = i; signed = λ q. refl; ended = λ q r. cc; spelled = tt }

module _ (D : Meaning) (s : Store) (l h : Edge) (ns : Normal D s) (la : Accepted D s l) (ha : Accepted D s h) (level : arity (rule_of s l) ≡ arity (rule_of s h)) where
  seat_sound : choose D l h ≡ None → l.negated ≡ false → (o : Option ℕ) → find s (pair l h) ≡ o → Sound D s (rule_of s l ⋆ rule_of s h) (seat o s (pair l h))
  seat_sound un up None e =
      let a : Addable D s (pair l h) = record { low_accepted = la; high_accepted = ha; level = level; unlettered = un; upright_low = up; new = e } in
      record {
        normal = (ns, a);
        grown = (pair l h ∷ [], refl);
        accepted = diamond_accepted D (pair l h ∷ s) (length s) (omega arith);
        rule = rw (eq-eqb (length s) (length s) refl);
      }
  seat_sound un up (Some k) e =
      let x = find_at D s (pair l h) k ns e in
      record { normal = ns; grown = ([], refl); accepted = diamond_accepted D s k x.less; rule = x.rule }

  pub add_sound : choose D l h ≡ None → l.negated ≡ false → Sound D s (rule_of s l ⋆ rule_of s h) (add s l h)
  add_sound un up = seat_sound un up (find s (pair l h)) refl

  pub edge_sound : Lawful D → (e : Edge) → choose D l h ≡ Some e → Sound D s (rule_of s l ⋆ rule_of s h) (s, e)
  edge_sound law e p =
      let x = lettered D law s l h la ha level e p in
      record { normal = ns; grown = ([], refl); accepted = lettered_accepted D law s l h e la ha p x; rule = lettered_rule D s l h e x }

flipped_sound : (D : Meaning) (s : Store) (f : Rule) (m : Made) → D.negates ≡ true → Sound D s (negate f) m → Sound D s f (flipped m)
flipped_sound D s f m neg x =
    record {
      normal = x.normal;
      grown = x.grown;
      accepted = accepted_flip D m.0 m.1 neg x.accepted;
      rule = sense_flip (diamond_rule m.0) m.1 ∙ ap negate x.rule ∙ negate_negate f;
    }

module _ (D : Meaning) (law : Lawful D) (s : Store) (l h : Edge) (ns : Normal D s) (la : Accepted D s l) (ha : Accepted D s h) (level : arity (rule_of s l) ≡ arity (rule_of s h)) where
  diamond_sound_negated : choose D l h ≡ None → D.negates ≡ true → l.negated ≡ true → Sound D s (rule_of s l ⋆ rule_of s h) (flipped (add s (flip l) (flip h)))
  diamond_sound_negated un neg up =
      let p = sense_flip (diamond_rule s) l in
      let q = sense_flip (diamond_rule s) h in
      let lv : arity (rule_of s (flip l)) ≡ arity (rule_of s (flip h)) = ap arity p ∙ arity_negate (rule_of s l) ∙ level ∙ sym (arity_negate (rule_of s h)) ∙ sym (ap arity q) in
      let x = add_sound D s (flip l) (flip h) ns (accepted_flip D s l neg la) (accepted_flip D s h neg ha) lv (choose_flip D law neg l h ∙ ap flip? un) (ap not up) in
      flipped_sound D s (rule_of s l ⋆ rule_of s h) (add s (flip l) (flip h)) neg
      (subst (λ (f : Rule). Sound D s f (add s (flip l) (flip h))) (ap₂ ◌⋆◌ p q) x)

  diamond_sound : choose D l h ≡ None → (b : Bool) → l.negated ≡ b → Sound D s (rule_of s l ⋆ rule_of s h) (cond b (flipped (add s (flip l) (flip h))) (add s l h))
  diamond_sound un false up = add_sound D s l h ns la ha level un up
  diamond_sound un true up = go D.negates refl
    where
      go : (m : Bool) → D.negates ≡ m → Sound D s (rule_of s l ⋆ rule_of s h) (flipped (add s (flip l) (flip h)))
      go true neg = diamond_sound_negated un neg up
      go false pos = let q = la.signed pos in absurd cc

  make_sound_at : (o : Option Edge) → choose D l h ≡ o → Sound D s (rule_of s l ⋆ rule_of s h) (make_by o s l h)
  make_sound_at None e = diamond_sound e l.negated refl
  make_sound_at (Some d) e = edge_sound D s l h ns la ha level law d e

  pub make_sound : Sound D s (rule_of s l ⋆ rule_of s h) (make D s l h)
  make_sound = make_sound_at (choose D l h) refl

-- Inserting --

-- the halves of a rule, inserted one after the other
module _ (D : Meaning) (law : Lawful D) (s : Store) (f g : Rule) (level : arity f ≡ arity g) (a b : Made) (x : Sound D s f a) (y : Sound D a.0 g b) where
  low_rule : rule_of b.0 a.1 ≡ f
  low_rule = rule_grown D a.0 b.0 a.1 y.grown x.accepted ∙ x.rule

  low_still : Accepted D b.0 a.1
  low_still = accepted_grown D a.0 b.0 a.1 y.grown x.accepted

  same_level : arity (rule_of b.0 a.1) ≡ arity (rule_of b.0 b.1)
  same_level = ap arity low_rule ∙ level ∙ sym (ap arity y.rule)

  pub join_last : Sound D b.0 (f ⋆ g) (make D b.0 a.1 b.1)
  join_last =
      subst (λ (r : Rule). Sound D b.0 r (make D b.0 a.1 b.1)) (ap₂ ◌⋆◌ low_rule y.rule)
      (make_sound D law b.0 a.1 b.1 y.normal low_still y.accepted same_level)

  pub join_sound : Sound D s (f ⋆ g) (make D b.0 a.1 b.1)
  join_sound =
      let z = join_last in
      let m = make D b.0 a.1 b.1 in
      record {
        normal = z.normal;
        grown = grown_trans s a.0 m.0 x.grown (grown_trans a.0 b.0 m.0 y.grown z.grown);
        accepted = z.accepted;
        rule = z.rule;
      }

pub insert_sound : InsertSound
insert_sound D law s ns (constant b) ev =
    record { normal = ns; grown = ([], refl); accepted = flat_accepted D s 0 b; rule = sense_flat (diamond_rule s) D 0 b }
insert_sound D law s ns (f ⋆ g) ev =
    let x = insert_sound D law s ns f ev.0 in
    let y = insert_sound D law (insert D s f).0 x.normal g ev.1 in
    join_sound D law s f g ev.2 (insert D s f) (insert D (insert D s f).0 g) x y
