-- The halves of accepted edges of some mark.
use Rattle.std.proofs.Common.{◌≡◌, ℕ, zero, suc, ◌-◌, ◌/◌, ◌%◌, ◌<◌, ◌≤◌, Bool, true, false, cond, ◌&&◌, eqb, List, [], ◌∷◌, map, length, get_or, Some, None, sym, refl, ap, ◌∙◌, subst, ap₂, arith}
use lib.ListN.{length-map}
use Rattle.std.proofs.lemmas.List.{get_or-map}
use Rattle.std.proofs.lemmas.Bool.{and_parts, eqb-true, eqb-false, eq-eqb, ne_eqb}
use Rattle.diagram.specs.declared.letters.Letter.{Letter}
use Rattle.diagram.specs.declared.edges.Edge.{Edge as EdgeRecord}
use Rattle.diagram.specs.declared.edges.Diamond.{Diamond as DiamondRecord}
use Rattle.diagram.specs.declared.edges.Target.{Target as TargetRecord}
use Rattle.diagram.specs.declared.edges.Target.TheVariants.{Zero, One, Diamond as DiamondNumber}
use Rattle.diagram.specs.declared.meanings.Meaning.{Meaning}
use Rattle.diagram.specs.Rules.{Rule, ◌⋆◌, arity, Balanced, value}
use Rattle.diagram.specs.Words.{letters_of}
use Rattle.diagram.specs.Edges.{Edge, edge, Diamond, Store, foot, sign, spell, diamond_rule, rule_of, diamond_at}
use Rattle.diagram.specs.Dialects.{Lawful}
use Rattle.diagram.specs.Making.{flat, low_of, high_of, upright, low_upright, high_upright, low_half, high_half}
use Rattle.diagram.specs.Acceptance.{Within, Accepted, Acceptable, normal}
use Rattle.diagram.specs.Records.{target_of, edge_of, diamond_of, store_of, arity_in, spelled_edge, spelled_diamonds, accepted_in, edge_below, halves_on}
use Rattle.diagram.proofs.Bridge.{arity_edge, nth}
use Rattle.diagram.proofs.Notions.{Halves}
use Rattle.diagram.proofs.Told.{balanced_rule}
use Rattle.diagram.proofs.Halving.{halves_right}
use Rattle.diagram.proofs.Decides.{normal_right}
use Rattle.diagram.proofs.Placed.{arity_record, arity_step, no_diamond}
use Rattle.diagram.proofs.Recorded.{store_length, halves_there, halves_spelled}
use Rattle.diagram.proofs.Recording.{spelled_in, acceptable_in, accepted_met}
use Rattle.diagram.proofs.Spelt.{nothing_below, below_parts}
use Rattle.engine.specs.States.{EdgeOfArity, end_value}

-- a diamond of the list is that of the store
pub diamond_there : (ds : List DiamondRecord) (k : ℕ) (d : DiamondRecord) → k < length ds → diamond_of (get_or ds k d) ≡ diamond_at (store_of ds) k
diamond_there ds k d h =
    sym (get_or-map diamond_of ds k d (diamond_of d) h) ∙ nth (map diamond_of ds) k (diamond_of d) (let l = length-map ds diamond_of in omega arith)

pub spelled_at : (ds : List DiamondRecord) (k : ℕ) (d : DiamondRecord) → spelled_diamonds ds ≡ true → k < length ds →
    (spelled_edge (get_or ds k d).low ≡ true) × (spelled_edge (get_or ds k d).high ≡ true)
spelled_at [] k d h l = absurd (omega arith)
spelled_at (x ∷ xs) zero d h l =
    let p = and_parts (spelled_edge x.low) (spelled_edge x.high && spelled_diamonds xs) h in
    (p.0, (and_parts (spelled_edge x.high) (spelled_diamonds xs) p.1).0)
spelled_at (x ∷ xs) (suc k) d h l =
    let p = and_parts (spelled_edge x.low) (spelled_edge x.high && spelled_diamonds xs) h in
    spelled_at xs k d (and_parts (spelled_edge x.high) (spelled_diamonds xs) p.1).1 (omega arith)

terminal_arity : (r : ℕ → Rule) (t : TargetRecord) → ((k : ℕ) → t ≡ DiamondNumber k → ⊥) → arity (foot r (target_of t)) ≡ 0
terminal_arity r Zero h = refl
terminal_arity r One h = refl
terminal_arity r (DiamondNumber k) h = absurd (h k refl)

within_at : (s : Store) (t : TargetRecord) (k : ℕ) → Within s (target_of t) → t ≡ DiamondNumber k → k < length s
within_at s t k w e = subst (λ (x : TargetRecord). Within s (target_of x)) e w

module _ (D : Meaning) (ds : List DiamondRecord) (e : EdgeRecord) (n : ℕ) (a : EdgeOfArity D ds e n) where
  pub standing : (k : ℕ) → e.target ≡ DiamondNumber k → k < length ds
  standing k h =
      let p = within_at (store_of ds) e.target k (acceptable_in D ds e a.accepted).accepted.within h in
      let q = store_length ds in
      omega arith

  -- an accepted edge has at most 20 letters
  pub length_most : e.word.length ≤ 20
  length_most =
      let p = (acceptable_in D ds e a.accepted).short in
      let q = arity_record (store_of ds) e in
      omega arith

  pub no_letters : edge_below e ≡ None → e.word.length ≡ 0
  no_letters h = nothing_below e length_most (spelled_in D ds e a.accepted) h

  -- without letters, an edge of some mark goes to a diamond
  pub to_diamond : 0 < n → edge_below e ≡ None → ((k : ℕ) → e.target ≡ DiamondNumber k → ⊥) → ⊥
  to_diamond h p t =
      let q = no_letters p in
      let s = terminal_arity (diamond_rule (store_of ds)) e.target t in
      let m = a.marks in
      omega arith

  -- the halves by the topmost letter
  module _ (c : Letter) (d : EdgeRecord) (b : edge_below e ≡ Some (c, d)) where
    abbrev below : List Letter
    below = letters_of d.word.length d.word.digits

    below_spelled : spelled_edge d ≡ true
    below_spelled = sym (below_parts e c d b).3 ∙ spelled_in D ds e a.accepted

    below_upright : edge_of d ≡ upright below (target_of e.target)
    below_upright = let p = below_parts e c d b in ap₂ (λ (m : Bool) (t : TargetRecord). edge m below (target_of t)) p.0 p.1

    below_arity : arity (rule_of (store_of ds) (edge_of d)) ≡ n - 1
    below_arity =
        let p = arity_record (store_of ds) e ∙ a.marks in
        let o = arity_edge (store_of ds) (edge_of e) in
        let q = ap (λ (x : Edge). arity (rule_of (store_of ds) x)) below_upright ∙ arity_edge (store_of ds) (upright below (target_of e.target)) in
        let k = ap length (below_parts e c d b).2 in
        omega arith

    pub letter_spelled : (spelled_edge (halves_on D (n - 1) c d).0 ≡ true) × (spelled_edge (halves_on D (n - 1) c d).1 ≡ true)
    letter_spelled = halves_spelled D (n - 1) c d below_spelled

    pub letter_low : edge_of (halves_on D (n - 1) c d).0 ≡ low_upright D (store_of ds) (edge_of e).word (edge_of e).target
    letter_low =
        (halves_there D (n - 1) c d).0
        ∙ ap (λ (m : ℕ). low_of c (flat D m) (edge_of d)) (sym below_arity)
        ∙ ap (λ (x : Edge). low_of c (flat D (arity (rule_of (store_of ds) x))) x) below_upright
        ∙ ap (λ (v : List Letter). low_upright D (store_of ds) v (target_of e.target)) (sym (below_parts e c d b).2)

    pub letter_high : edge_of (halves_on D (n - 1) c d).1 ≡ high_upright D (store_of ds) (edge_of e).word (edge_of e).target
    letter_high =
        (halves_there D (n - 1) c d).1
        ∙ ap (λ (m : ℕ). high_of c (flat D m) (edge_of d)) (sym below_arity)
        ∙ ap (λ (x : Edge). high_of c (flat D (arity (rule_of (store_of ds) x))) x) below_upright
        ∙ ap (λ (v : List Letter). high_upright D (store_of ds) v (target_of e.target)) (sym (below_parts e c d b).2)

  -- the halves of a diamond
  pub diamond_low : (k : ℕ) (d : DiamondRecord) → e.word.length ≡ 0 → e.target ≡ DiamondNumber k →
      edge_of (get_or ds k d).low ≡ low_upright D (store_of ds) (edge_of e).word (edge_of e).target
  diamond_low k d z t =
      ap (λ (x : Diamond). x.low) (diamond_there ds k d (standing k t)) ∙ sym (ap₂ (λ (m : ℕ) (x : TargetRecord). low_upright D (store_of ds) (letters_of m e.word.digits) (target_of x)) z t)

  pub diamond_high : (k : ℕ) (d : DiamondRecord) → e.word.length ≡ 0 → e.target ≡ DiamondNumber k →
      edge_of (get_or ds k d).high ≡ high_upright D (store_of ds) (edge_of e).word (edge_of e).target
  diamond_high k d z t =
      ap (λ (x : Diamond). x.high) (diamond_there ds k d (standing k t)) ∙ sym (ap₂ (λ (m : ℕ) (x : TargetRecord). high_upright D (store_of ds) (letters_of m e.word.digits) (target_of x)) z t)

-- Both halves --

module _ (D : Meaning) (law : Lawful D) (ds : List DiamondRecord) (ns : normal D (store_of ds) ≡ true) (e : EdgeRecord) (n : ℕ) (a : EdgeOfArity D ds e n) (h : 0 < n) where
  pub halves : Halves D (store_of ds) (edge_of e)
  halves =
      let m = a.marks in
      let k = arity_record (store_of ds) e in
      halves_right D law (store_of ds) ((normal_right D (store_of ds)).0 ns) (edge_of e) (acceptable_in D ds e a.accepted).accepted (omega arith)

  -- the arity of either half is one less
  halves_arity : (arity (rule_of (store_of ds) (low_half D (store_of ds) (edge_of e))) ≡ n - 1) × (arity (rule_of (store_of ds) (high_half D (store_of ds) (edge_of e))) ≡ n - 1)
  halves_arity =
      let r = halves.rule in
      let p = ap arity r in
      let m = arity_record (store_of ds) e ∙ a.marks in
      let ev = subst Balanced r (balanced_rule D (store_of ds) ((normal_right D (store_of ds)).0 ns) (edge_of e)) in
      let q = ev.2 in
      (omega arith, omega arith)

  fit : (x : Edge) → Accepted D (store_of ds) x → arity (rule_of (store_of ds) x) ≡ n - 1 → (r : EdgeRecord) → spelled_edge r ≡ true → edge_of r ≡ x → EdgeOfArity D ds r (n - 1)
  fit x b l r s p =
      let m = (acceptable_in D ds e a.accepted).short in
      let k = arity_record (store_of ds) e ∙ a.marks in
      let q : arity (rule_of (store_of ds) (edge_of r)) ≡ n - 1 = ap (λ (y : Edge). arity (rule_of (store_of ds) y)) p ∙ l in
      let c : Acceptable D (store_of ds) (edge_of r) = record { accepted = subst (λ (y : Edge). Accepted D (store_of ds) y) (sym p) b; short = omega arith } in
      record { accepted = accepted_met D ds r s c; marks = sym (arity_record (store_of ds) r) ∙ q }

  -- the halves have a mark less
  pub halves_fit : (l h : EdgeRecord) → (spelled_edge l ≡ true) × (spelled_edge h ≡ true) →
      edge_of l ≡ low_half D (store_of ds) (edge_of e) → edge_of h ≡ high_half D (store_of ds) (edge_of e) → EdgeOfArity D ds l (n - 1) × EdgeOfArity D ds h (n - 1)
  halves_fit l h s p q = (
    fit (low_half D (store_of ds) (edge_of e)) halves.low_accepted halves_arity.0 l s.0 p,
    fit (high_half D (store_of ds) (edge_of e)) halves.high_accepted halves_arity.1 h s.1 q,
  )

  -- the rule of the whole is that of the low half, and that of the high half
  pub halves_rule : (l h : EdgeRecord) → edge_of l ≡ low_half D (store_of ds) (edge_of e) → edge_of h ≡ high_half D (store_of ds) (edge_of e) →
      rule_of (store_of ds) (edge_of e) ≡ rule_of (store_of ds) (edge_of l) ⋆ rule_of (store_of ds) (edge_of h)
  halves_rule l h p q = halves.rule ∙ sym (ap₂ (λ (x y : Edge). rule_of (store_of ds) x ⋆ rule_of (store_of ds) y) p q)

  -- the value of the whole is that of the half which the first mark picks
  pub half_value : (l h : EdgeRecord) (x : ℕ) → edge_of l ≡ low_half D (store_of ds) (edge_of e) → edge_of h ≡ high_half D (store_of ds) (edge_of e) →
      value (rule_of (store_of ds) (edge_of (cond (eqb (x % 2) 1) h l))) (x / 2) ≡ value (rule_of (store_of ds) (edge_of e)) x
  half_value l h x p q = go (eqb (x % 2) 1) refl ∙ sym (ap (λ (f : Rule). value f x) halves.rule)
    where
      go : (b : Bool) → eqb (x % 2) 1 ≡ b →
          value (rule_of (store_of ds) (edge_of (cond b h l))) (x / 2)
          ≡ cond (eqb (x % 2) 0) (value (rule_of (store_of ds) (low_half D (store_of ds) (edge_of e))) (x / 2)) (value (rule_of (store_of ds) (high_half D (store_of ds) (edge_of e))) (x / 2))
      go true t =
          let o = eqb-true (x % 2) 1 t in
          let z = ne_eqb (x % 2) 0 (λ w. omega arith) in
          simp z (ap (λ (y : Edge). value (rule_of (store_of ds) y) (x / 2)) q)
      go false t =
          let o = eqb-false (x % 2) 1 t in
          let z = eq-eqb (x % 2) 0 (omega arith) in
          simp z (ap (λ (y : Edge). value (rule_of (store_of ds) y) (x / 2)) p)

-- the value of an edge of no mark
pub value_none : (D : Meaning) (ds : List DiamondRecord) (e : EdgeRecord) (x : ℕ) → EdgeOfArity D ds e 0 → end_value e.negated e.target ≡ value (rule_of (store_of ds) (edge_of e)) x
value_none D ds e x a =
    let m = a.marks in
    let z : e.word.length ≡ 0 = omega arith in
    let f : arity (foot (diamond_rule (store_of ds)) (target_of e.target)) ≡ 0 = omega arith in
    let w : rule_of (store_of ds) (edge_of e) ≡ sign e.negated (foot (diamond_rule (store_of ds)) (target_of e.target)) =
    ap (λ (k : ℕ). sign e.negated (spell (letters_of k e.word.digits) (foot (diamond_rule (store_of ds)) (target_of e.target)))) z in
    go e.target e.negated f (λ k t. standing D ds e 0 a k t) ∙ ap (λ (r : Rule). value r x) (sym w)
  where
    go : (t : TargetRecord) (b : Bool) → arity (foot (diamond_rule (store_of ds)) (target_of t)) ≡ 0 → ((k : ℕ) → t ≡ DiamondNumber k → k < length ds) →
        end_value b t ≡ value (sign b (foot (diamond_rule (store_of ds)) (target_of t))) x
    go Zero true f k = refl
    go Zero false f k = refl
    go One true f k = refl
    go One false f k = refl
    go (DiamondNumber j) b f k = let y = arity_step ds j no_diamond (k j refl) in absurd (omega arith)

-- an edge that passed the test has at most 20 marks
pub marks_most : (D : Meaning) (ds es : List DiamondRecord) (e : EdgeRecord) (n : ℕ) → ds ≡ es → true ≡ accepted_in D ds e → n ≡ arity_in es e → n ≤ 20
marks_most D ds es e n p t q =
    let b = (acceptable_in D ds e (sym t)).short in
    let k = arity_record (store_of ds) e in
    let r = ap (λ (xs : List DiamondRecord). arity_in xs e) p in
    omega arith
