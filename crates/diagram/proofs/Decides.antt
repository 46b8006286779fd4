-- The tests of edges and stores, read and met.
use Rattle.std.proofs.Common.{◌≡◌, ℕ, Bool, true, false, cond, not, ◌&&◌, eqb, ◌≢◌, List, [], ◌∷◌, length, Some, None, Option, sym, refl, ap, subst, ◌∙◌}
use Rattle.std.proofs.lemmas.Bool.{ltb-true, lt-ltb, and_from, and_parts, eq-eqb, eqb-true, not-true, cond-true, cond-false, cond_both}
use Rattle.diagram.specs.Rules.{arity}
use Rattle.diagram.specs.declared.letters.Letter.{Letter}
use Rattle.diagram.specs.Edges.{Target, terminal, diamond, Edge, Diamond, Store, rule_of}
use Rattle.diagram.specs.declared.meanings.Meaning.{Meaning}
use Rattle.diagram.specs.Making.{choose, find, upright, low_upright, high_upright}
use Rattle.diagram.specs.Acceptance.{Within, Spelled, Accepted, Addable, Normal, inside, usual, gives, nothing, well_spelled, accepts, admits, normal}
use Rattle.diagram.proofs.Notions.{AcceptsRight}
use Rattle.diagram.specs.Theorems.{NormalTested}
use Rattle.diagram.proofs.Laws.{same_refl, same_eq}

inside_within : (s : Store) (t : Target) → inside s t ≡ true → Within s t
inside_within s (terminal b) e = tt
inside_within s (diamond k) e = ltb-true k (length s) e

within_inside : (s : Store) (t : Target) → Within s t → inside s t ≡ true
within_inside s (terminal b) h = refl
within_inside s (diamond k) h = lt-ltb k (length s) h

usual_ended : (t : Target) → usual t ≡ true → t ≢ terminal true
usual_ended (terminal true) e q = cc
usual_ended (terminal false) e q = cc
usual_ended (diamond k) e q = cc

ended_usual : (t : Target) → t ≢ terminal true → usual t ≡ true
ended_usual (terminal true) n = absurd (n refl)
ended_usual (terminal false) n = refl
ended_usual (diamond k) n = refl

gives_some : (o : Option Edge) (e : Edge) → gives o e ≡ true → o ≡ Some e
gives_some None e p = cc
gives_some (Some d) e p = ap Some (same_eq d e p)

some_gives : (o : Option Edge) (e : Edge) → o ≡ Some e → gives o e ≡ true
some_gives o e p = subst (λ (x : Option Edge). gives x e ≡ true) (sym p) (same_refl e)

nothing_none : {A : Type 0} (o : Option A) → nothing o ≡ true → o ≡ None
nothing_none None e = refl
nothing_none (Some x) e = cc

none_nothing : {A : Type 0} (o : Option A) → o ≡ None → nothing o ≡ true
none_nothing o p = subst (λ x. nothing x ≡ true) (sym p) refl

module _ (D : Meaning) (s : Store) (t : Target) where
  spelled_read : (w : List Letter) → well_spelled D s t w ≡ true → Spelled D s t w
  spelled_read [] e = tt
  spelled_read (c ∷ w) e =
      let o = choose D (low_upright D s (c ∷ w) t) (high_upright D s (c ∷ w) t) in (
        spelled_read w (and_parts (well_spelled D s t w) (gives o (upright (c ∷ w) t)) e).0,
        gives_some o (upright (c ∷ w) t) (and_parts (well_spelled D s t w) (gives o (upright (c ∷ w) t)) e).1,
      )

  spelled_met : (w : List Letter) → Spelled D s t w → well_spelled D s t w ≡ true
  spelled_met [] p = refl
  spelled_met (c ∷ w) p =
      let o = choose D (low_upright D s (c ∷ w) t) (high_upright D s (c ∷ w) t) in
      and_from (well_spelled D s t w) (gives o (upright (c ∷ w) t)) (spelled_met w p.0) (some_gives o (upright (c ∷ w) t) p.1)

accepts_read : (D : Meaning) (s : Store) (e : Edge) → accepts D s e ≡ true → Accepted D s e
accepts_read D s e p =
    let a = inside s e.target in
    let b = cond D.negates (usual e.target) (not e.negated) in
    let c = well_spelled D s e.target e.word in
    let q = (and_parts a (b && c) p).1 in
    let r = (and_parts b c q).0 in
    record {
      within = inside_within s e.target (and_parts a (b && c) p).0;
      signed = λ pos. not-true e.negated (sym (cond-false D.negates (usual e.target) (not e.negated) pos) ∙ r);
      ended = λ neg. usual_ended e.target (sym (cond-true D.negates (usual e.target) (not e.negated) neg) ∙ r);
      spelled = spelled_read D s e.target e.word (and_parts b c q).1;
    }

accepts_met : (D : Meaning) (s : Store) (e : Edge) → Accepted D s e → accepts D s e ≡ true
accepts_met D s e a =
    and_from (inside s e.target) (cond D.negates (usual e.target) (not e.negated) && well_spelled D s e.target e.word)
    (within_inside s e.target a.within)
    (and_from (cond D.negates (usual e.target) (not e.negated)) (well_spelled D s e.target e.word)
    (cond_both D.negates (usual e.target) (not e.negated) (λ b. b ≡ true) (λ neg. ended_usual e.target (a.ended neg)) (λ pos. ap not (a.signed pos)))
    (spelled_met D s e.target e.word a.spelled))

pub accepts_right : AcceptsRight
accepts_right D s e = (accepts_read D s e, accepts_met D s e)

module _ (D : Meaning) (s : Store) (n : Diamond) where
  abbrev t₂ : Bool
  t₂ = eqb (arity (rule_of s n.low)) (arity (rule_of s n.high))

  abbrev t₃ : Bool
  t₃ = nothing (choose D n.low n.high)

  abbrev t₄ : Bool
  t₄ = not n.low.negated

  abbrev t₅ : Bool
  t₅ = nothing (find s n)

  admits_read : admits D s n ≡ true → Addable D s n
  admits_read p =
      let p₁ = (and_parts (accepts D s n.low) (accepts D s n.high && (t₂ && (t₃ && (t₄ && t₅)))) p).1 in
      let p₂ = (and_parts (accepts D s n.high) (t₂ && (t₃ && (t₄ && t₅))) p₁).1 in
      let p₃ = (and_parts t₂ (t₃ && (t₄ && t₅)) p₂).1 in
      let p₄ = (and_parts t₃ (t₄ && t₅) p₃).1 in
      record {
        low_accepted = accepts_read D s n.low (and_parts (accepts D s n.low) (accepts D s n.high && (t₂ && (t₃ && (t₄ && t₅)))) p).0;
        high_accepted = accepts_read D s n.high (and_parts (accepts D s n.high) (t₂ && (t₃ && (t₄ && t₅))) p₁).0;
        level = eqb-true (arity (rule_of s n.low)) (arity (rule_of s n.high)) (and_parts t₂ (t₃ && (t₄ && t₅)) p₂).0;
        unlettered = nothing_none (choose D n.low n.high) (and_parts t₃ (t₄ && t₅) p₃).0;
        upright_low = not-true n.low.negated (and_parts t₄ t₅ p₄).0;
        new = nothing_none (find s n) (and_parts t₄ t₅ p₄).1;
      }

  admits_met : Addable D s n → admits D s n ≡ true
  admits_met a =
      and_from (accepts D s n.low) (accepts D s n.high && (t₂ && (t₃ && (t₄ && t₅)))) (accepts_met D s n.low a.low_accepted)
      (and_from (accepts D s n.high) (t₂ && (t₃ && (t₄ && t₅))) (accepts_met D s n.high a.high_accepted)
      (and_from t₂ (t₃ && (t₄ && t₅)) (subst (λ (k : ℕ). eqb (arity (rule_of s n.low)) k ≡ true) a.level (eq-eqb (arity (rule_of s n.low)) (arity (rule_of s n.low)) refl))
      (and_from t₃ (t₄ && t₅) (none_nothing (choose D n.low n.high) a.unlettered)
      (and_from t₄ t₅ (ap not a.upright_low) (none_nothing (find s n) a.new)))))

normal_read : (D : Meaning) (s : Store) → normal D s ≡ true → Normal D s
normal_read D [] e = tt
normal_read D (n ∷ s) e = (normal_read D s (and_parts (normal D s) (admits D s n) e).0, admits_read D s n (and_parts (normal D s) (admits D s n) e).1)

normal_met : (D : Meaning) (s : Store) → Normal D s → normal D s ≡ true
normal_met D [] h = refl
normal_met D (n ∷ s) h = and_from (normal D s) (admits D s n) (normal_met D s h.0) (admits_met D s n h.1)

pub normal_right : NormalTested
normal_right D s = (normal_read D s, normal_met D s)
