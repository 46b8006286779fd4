-- Acceptance, letter by letter and condition by condition, of the program's edges.
use Rattle.std.proofs.Common.{◌≡◌, ℕ, zero, suc, ◌+◌, ◌≤◌, Bool, true, false, cond, not, ◌&&◌, ltb, leb, List, ◌∷◌, Some, None, Option, option_map, sym, refl, ap, ◌∙◌, ap₂, arith}
use Rattle.std.proofs.lemmas.Bool.{and_parts, and_from, le-leb, lt-leb, leb-false, ltb-true, ltb-false, and_right}
use Rattle.diagram.specs.declared.letters.Letter.{Letter}
use Rattle.diagram.specs.declared.meanings.Meaning.{Meaning}
use Rattle.diagram.specs.declared.edges.Word.{Word}
use Rattle.diagram.specs.declared.edges.Target.{Target as TargetRecord}
use Rattle.diagram.specs.declared.edges.Edge.{Edge as EdgeRecord}
use Rattle.diagram.specs.declared.edges.Diamond.{Diamond as DiamondRecord}
use Rattle.diagram.specs.Rules.{arity}
use Rattle.diagram.specs.Words.{letters_of, spells, word, peeled}
use Rattle.diagram.specs.Edges.{Store, foot, diamond_rule, rule_of}
use Rattle.diagram.specs.Making.{flat, choose, low_of, high_of, upright}
use Rattle.diagram.specs.Acceptance.{inside, usual, gives, well_spelled, accepts}
use Rattle.diagram.specs.Records.{target_of, edge_of, store_of, stands_in, spelled_edge, accepted_in, edge_below, letter_chosen}
use Rattle.diagram.proofs.Eights.{peel_none, peeled_parts}
use Rattle.diagram.proofs.Bridge.{arity_edge}
use Rattle.diagram.proofs.Placed.{arity_record, length_letters}
use Rattle.diagram.proofs.Recorded.{letter_test, stands_there}

-- where nothing can be peeled off a word that spells, there is no letter
nothing_peeled : (n x : ℕ) → n ≤ 20 → spells n x ≡ true → peeled (word n x) ≡ None → n ≡ 0
nothing_peeled zero x l h e = refl
nothing_peeled (suc n) x l h e =
    let p = peel_none (suc n) x (omega arith) e in
    let q = and_from (leb (suc n) 20) (spells (suc n) x) (le-leb (suc n) 20 l) h in
    absurd cc

abbrev on_word : EdgeRecord → Letter × Word → Letter × EdgeRecord
on_word e p = (p.0, record { negated = false; word = p.1; target = e.target })

-- an edge that spells and has no letter on top has none
pub nothing_below : (e : EdgeRecord) → e.word.length ≤ 20 → spelled_edge e ≡ true → edge_below e ≡ None → e.word.length ≡ 0
nothing_below e l h = go (peeled e.word) refl
  where
    go : (o : Option (Letter × Word)) → peeled e.word ≡ o → option_map (on_word e) o ≡ None → e.word.length ≡ 0
    go None p q = nothing_peeled e.word.length e.word.digits l h p
    go (Some w) p q = absurd cc

-- what edge_below gives is unmarked, goes to the same target, and has the letters below the topmost
pub below_parts : (e : EdgeRecord) (c : Letter) (d : EdgeRecord) → edge_below e ≡ Some (c, d) →
    (d.negated ≡ false) × (d.target ≡ e.target) × (letters_of e.word.length e.word.digits ≡ c ∷ letters_of d.word.length d.word.digits) × (spelled_edge e ≡ spelled_edge d)
below_parts e c d = go (peeled e.word) refl
  where
    go : (o : Option (Letter × Word)) → peeled e.word ≡ o → option_map (on_word e) o ≡ Some (c, d) →
        (d.negated ≡ false) × (d.target ≡ e.target) × (letters_of e.word.length e.word.digits ≡ c ∷ letters_of d.word.length d.word.digits) × (spelled_edge e ≡ spelled_edge d)
    go None p h = absurd cc
    go (Some q) p h =
        let i : on_word e q ≡ (c, d) = cc in
        let w = peeled_parts e.word q.0 q.1 p in (
          ap (λ (z : Letter × EdgeRecord). z.1.negated) (sym i),
          ap (λ (z : Letter × EdgeRecord). z.1.target) (sym i),
          w.1 ∙ ap (λ (z : Letter × EdgeRecord). z.0 ∷ letters_of z.1.word.length z.1.word.digits) i,
          w.2 ∙ ap (λ (z : Letter × EdgeRecord). spelled_edge z.1) i,
        )

-- one letter on an unmarked edge
pub spelled_step : (D : Meaning) (s : Store) (e : EdgeRecord) (c : Letter) (f : ℕ) → e.negated ≡ false → spelled_edge e ≡ true →
    arity (foot (diamond_rule s) (target_of e.target)) ≡ f →
    well_spelled D s (target_of e.target) (c ∷ letters_of e.word.length e.word.digits)
    ≡ (well_spelled D s (target_of e.target) (letters_of e.word.length e.word.digits) && letter_chosen D (e.word.length + f) c e)
spelled_step D s e c f u h a =
    let w = letters_of e.word.length e.word.digits in
    let t = target_of e.target in
    let p : arity (rule_of s (upright w t)) ≡ e.word.length + f =
    arity_edge s (upright w t) ∙ ap₂ ◌+◌ (length_letters e.word.length e.word.digits) a in
    ap (λ (b : Bool). well_spelled D s t w && b)
    (ap (λ (n : ℕ). gives (choose D (low_of c (flat D n) (upright w t)) (high_of c (flat D n) (upright w t))) (upright (c ∷ w) t)) p
    ∙ sym (letter_test D (e.word.length + f) c e u h))

-- the conditions of acceptance, in the order in which the program tests them
pub accepted_by : (D : Meaning) (ds : List DiamondRecord) (e : EdgeRecord) (f : ℕ) → arity (foot (diamond_rule (store_of ds)) (target_of e.target)) ≡ f →
    accepted_in D ds e
    ≡ (inside (store_of ds) (target_of e.target)
    && (cond D.negates (usual (target_of e.target)) (not e.negated)
    && (spelled_edge e
    && (leb (e.word.length + f) 20 && well_spelled D (store_of ds) (target_of e.target) (letters_of e.word.length e.word.digits)))))
accepted_by D ds e f a =
    let p : arity (rule_of (store_of ds) (edge_of e)) ≡ e.word.length + f = arity_record (store_of ds) e ∙ ap (λ (n : ℕ). e.word.length + n) a in
    ap (λ (n : ℕ). spelled_edge e && (accepts D (store_of ds) (edge_of e) && leb n 20)) p
    ∙ turn (spelled_edge e) (inside (store_of ds) (target_of e.target)) (cond D.negates (usual (target_of e.target)) (not e.negated))
    (well_spelled D (store_of ds) (target_of e.target) (letters_of e.word.length e.word.digits)) (leb (e.word.length + f) 20)
  where
    turn : (a b c d e : Bool) → (a && ((b && (c && d)) && e)) ≡ (b && (c && (a && (e && d))))
    turn true true true true e = both e
      where
        both : (e : Bool) → e ≡ (e && true)
        both true = refl
        both false = refl
    turn true true true false true = refl
    turn true true true false false = refl
    turn true true false d e = refl
    turn true false c d e = refl
    turn false true true d e = refl
    turn false true false d e = refl
    turn false false c d e = refl

-- Tests in a row --

and_one : (x y : Bool) → y ≡ true → (x && y) ≡ x
and_one true y h = h
and_one false y h = refl

-- a letter off the edge: the rest decides where that letter is chosen
module _ (D : Meaning) (s : Store) (e : EdgeRecord) (c : Letter) (d : EdgeRecord) (f : ℕ)
    (b : edge_below e ≡ Some (c, d)) (h : spelled_edge e ≡ true) (a : arity (foot (diamond_rule s) (target_of e.target)) ≡ f) where
  pub below_foot : arity (foot (diamond_rule s) (target_of d.target)) ≡ f
  below_foot = ap (λ (t : TargetRecord). arity (foot (diamond_rule s) (target_of t))) (below_parts e c d b).1 ∙ a

  below_step : well_spelled D s (target_of e.target) (letters_of e.word.length e.word.digits)
      ≡ (well_spelled D s (target_of d.target) (letters_of d.word.length d.word.digits) && letter_chosen D (d.word.length + f) c d)
  below_step =
      let p = below_parts e c d b in
      ap₂ (λ (t : TargetRecord) (w : List Letter). well_spelled D s (target_of t) w) (sym p.1) p.2 ∙ spelled_step D s d c f p.0 (sym p.3 ∙ h) below_foot

  pub below_chosen : letter_chosen D (d.word.length + f) c d ≡ true →
      well_spelled D s (target_of e.target) (letters_of e.word.length e.word.digits) ≡ well_spelled D s (target_of d.target) (letters_of d.word.length d.word.digits)
  below_chosen t = below_step ∙ and_one (well_spelled D s (target_of d.target) (letters_of d.word.length d.word.digits)) (letter_chosen D (d.word.length + f) c d) t

  pub below_unchosen : letter_chosen D (d.word.length + f) c d ≡ false → well_spelled D s (target_of e.target) (letters_of e.word.length e.word.digits) ≡ false
  below_unchosen t = below_step ∙ and_right (well_spelled D s (target_of d.target) (letters_of d.word.length d.word.digits)) (letter_chosen D (d.word.length + f) c d) t

module _ (D : Meaning) (ds : List DiamondRecord) (e : EdgeRecord) (f : ℕ) (a : arity (foot (diamond_rule (store_of ds)) (target_of e.target)) ≡ f) where
  abbrev suiting : Bool
  suiting = cond D.negates (usual (target_of e.target)) (not e.negated)

  abbrev rest : Bool
  rest = well_spelled D (store_of ds) (target_of e.target) (letters_of e.word.length e.word.digits)

  pub not_standing : stands_in ds e.target ≡ false → accepted_in D ds e ≡ false
  not_standing h = let p = sym (stands_there ds e.target) ∙ h in accepted_by D ds e f a ∙ simp p

  pub not_suiting : suiting ≡ false → accepted_in D ds e ≡ false
  not_suiting h =
      accepted_by D ds e f a ∙ and_right (inside (store_of ds) (target_of e.target)) (suiting && (spelled_edge e && (leb (e.word.length + f) 20 && rest))) (simp h)

  pub not_spelled : (leb e.word.length 20 && spelled_edge e) ≡ false → accepted_in D ds e ≡ false
  not_spelled h =
      accepted_by D ds e f a
      ∙ and_right (inside (store_of ds) (target_of e.target)) (suiting && (spelled_edge e && (leb (e.word.length + f) 20 && rest)))
      (and_right suiting (spelled_edge e && (leb (e.word.length + f) 20 && rest)) (go (leb e.word.length 20) refl (spelled_edge e) h))
    where
      go : (b : Bool) → leb e.word.length 20 ≡ b → (c : Bool) → (b && c) ≡ false → (c && (leb (e.word.length + f) 20 && rest)) ≡ false
      go true p true q = absurd cc
      go true p false q = refl
      go false p true q =
          let l = leb-false e.word.length 20 p in
          let m = lt-leb (e.word.length + f) 20 (omega arith) in
          simp m
      go false p false q = refl

  pub too_long : ltb 20 (e.word.length + f) ≡ true → accepted_in D ds e ≡ false
  too_long h =
      let m = lt-leb (e.word.length + f) 20 (ltb-true 20 (e.word.length + f) h) in
      accepted_by D ds e f a
      ∙ and_right (inside (store_of ds) (target_of e.target)) (suiting && (spelled_edge e && (leb (e.word.length + f) 20 && rest)))
      (and_right suiting (spelled_edge e && (leb (e.word.length + f) 20 && rest)) (and_right (spelled_edge e) (leb (e.word.length + f) 20 && rest) (simp m)))

  pub all_but_letters : stands_in ds e.target ≡ true → suiting ≡ true → (leb e.word.length 20 && spelled_edge e) ≡ true → ltb 20 (e.word.length + f) ≡ false →
      accepted_in D ds e ≡ rest
  all_but_letters p q r l =
      let t = sym (stands_there ds e.target) ∙ p in
      let s = (and_parts (leb e.word.length 20) (spelled_edge e) r).1 in
      let m = le-leb (e.word.length + f) 20 (ltb-false 20 (e.word.length + f) l) in
      accepted_by D ds e f a ∙ simp (t, q, s, m)
