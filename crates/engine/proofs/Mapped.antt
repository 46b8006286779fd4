-- What a combination answers for its arguments, and what it leaves in the cache's map.
use Rattle.std.proofs.Common.{◌≡◌, ℕ, Bool, true, false, cond, ◌&&◌, eqb, leb, List, IfOk, Some, None, Ok, Err, Option, Result, sym, refl, ap, ◌∙◌, subst, ap₂}
use Rattle.std.proofs.lemmas.Bool.{leb-true, eqb-true, eq-eqb, and_parts}
use Rattle.diagram.specs.declared.edges.Edge.{Edge}
use Rattle.diagram.specs.declared.edges.Diamond.{Diamond}
use Rattle.diagram.specs.declared.meanings.Meaning.{Meaning}
use Rattle.diagram.specs.declared.refusals.Refusal.{Refusal}
use Rattle.diagram.specs.declared.refusals.Refusal.TheVariants.{NotAccepted, AritiesDiffer, NoConnective, Full}
use Rattle.diagram.specs.Refusals.{refusal_number}
use Rattle.diagram.specs.Rules.{Rule, negate, connective}
use Rattle.diagram.specs.Records.{accepted_in, arity_in, other_mark}
use Rattle.diagram.specs.RecordTheorems.{rule_in, Answered}
use Rattle.cache.specs.declared.entries.Key.{Key}
use Rattle.cache.specs.Tables.{Stands}
use Rattle.engine.specs.declared.states.State.{State}
use Rattle.engine.specs.declared.combined.Combined.{Combined}
use Rattle.engine.specs.Steps.{Outcome, inserted, joint, combine_step, answered, negate_step, given}
use Rattle.engine.specs.States.{KeyOfArity}
use Rattle.engine.specs.Laws.{HeldWell, Remembers, MapAfter}
use Rattle.engine.proofs.Lawlike.{state_well}
use Rattle.cache.specs.Entries.{key}
use Rattle.engine.proofs.Remembered.{known, right_read, step_right}
use Rattle.engine.proofs.Marks.{passed}
use Rattle.engine.proofs.Decided.{negated_by, other_right}

-- Arguments --

module _ (D : Meaning) (ds : List Diamond) (c : ℕ) (a b : Edge) where
  -- how the two edges are checked
  abbrev pub pair_check : Result ℕ Refusal
  pair_check = cond (accepted_in D ds a && accepted_in D ds b) (cond (eqb (arity_in ds a) (arity_in ds b)) (Ok (arity_in ds a)) (Err AritiesDiffer)) (Err NotAccepted)

  pub connective_refused : (x : Refusal) → Err x ≡ cond (leb c 15) (Ok c) (Err NoConnective) → (combine_step D ds c a b ≡ (Err x, ds)) × (eqb (refusal_number x) 7 ≡ false)
  connective_refused x p = go (leb c 15) refl p
    where
      go : (t : Bool) → leb c 15 ≡ t → Err x ≡ cond t (Ok c) (Err NoConnective) → (combine_step D ds c a b ≡ (Err x, ds)) × (eqb (refusal_number x) 7 ≡ false)
      go true e q = absurd cc
      go false e q =
          let r : x ≡ NoConnective = cc in
          (simp e (ap (λ (y : Refusal). (Err y, ds)) (sym r)), ap (λ (y : Refusal). eqb (refusal_number y) 7) r)

  pub pair_refused : (x : Refusal) → leb c 15 ≡ true → Err x ≡ pair_check → (combine_step D ds c a b ≡ (Err x, ds)) × (eqb (refusal_number x) 7 ≡ false)
  pair_refused x l p = go (accepted_in D ds a && accepted_in D ds b) refl (eqb (arity_in ds a) (arity_in ds b)) refl p
    where
      go : (t : Bool) → (accepted_in D ds a && accepted_in D ds b) ≡ t → (u : Bool) → eqb (arity_in ds a) (arity_in ds b) ≡ u →
          Err x ≡ cond t (cond u (Ok (arity_in ds a)) (Err AritiesDiffer)) (Err NotAccepted) → (combine_step D ds c a b ≡ (Err x, ds)) × (eqb (refusal_number x) 7 ≡ false)
      go true e true f q = absurd cc
      go true e false f q =
          let r : x ≡ AritiesDiffer = cc in
          (simp (l, e, f) (ap (λ (y : Refusal). (Err y, ds)) (sym r)), ap (λ (y : Refusal). eqb (refusal_number y) 7) r)
      go false e u f q =
          let r : x ≡ NotAccepted = cc in
          (simp (l, e) (ap (λ (y : Refusal). (Err y, ds)) (sym r)), ap (λ (y : Refusal). eqb (refusal_number y) 7) r)

  -- the key of the number that passed
  pub key_asked : (n : ℕ) (k : Key) → Ok n ≡ cond (leb c 15) (Ok c) (Err NoConnective) → k ≡ key n a b → k ≡ key c a b
  key_asked n k p q = q ∙ ap (λ (m : ℕ). key m a b) (passed (leb c 15) n c NoConnective p).1

  pub pair_passed : (n : ℕ) → leb c 15 ≡ true → Ok n ≡ pair_check → KeyOfArity D ds (key c a b) n
  pair_passed n l p = go (accepted_in D ds a && accepted_in D ds b) refl (eqb (arity_in ds a) (arity_in ds b)) refl p
    where
      go : (t : Bool) → (accepted_in D ds a && accepted_in D ds b) ≡ t → (u : Bool) → eqb (arity_in ds a) (arity_in ds b) ≡ u →
          Ok n ≡ cond t (cond u (Ok (arity_in ds a)) (Err AritiesDiffer)) (Err NotAccepted) → KeyOfArity D ds (key c a b) n
      go true e true f q =
          let w = and_parts (accepted_in D ds a) (accepted_in D ds b) e in
          let m : n ≡ arity_in ds a = cc in
          record {
            few = leb-true c 15 l;
            left = record { accepted = w.0; marks = sym m };
            right = record { accepted = w.1; marks = sym (eqb-true (arity_in ds a) (arity_in ds b) f) ∙ sym m };
          }
      go true e false f q = absurd cc
      go false e u f q = absurd cc

  pub key_passed : (n m : ℕ) (k : Key) → Ok n ≡ cond (leb c 15) (Ok c) (Err NoConnective) → k ≡ key n a b → Ok m ≡ pair_check → KeyOfArity D ds k m
  key_passed n m k p q r = subst (λ (j : Key). KeyOfArity D ds j m) (sym (key_asked n k p q)) (pair_passed m (passed (leb c 15) n c NoConnective p).0 r)

-- Maps --

-- what a cache gives with an engine's table is right
pub remembers_state : (s : State) (gives : Key → Option Edge) → ((k : Key) (e : Edge) → gives k ≡ Some e → Stands s.table k e) → Remembers s.profile.meaning s.diamonds gives
remembers_state s gives honest k e p = right_read s.profile.meaning s.diamonds (state_well s) k e (s.right k e (honest k e p))

pub nothing_given : {A : Type 0} (o : Option Edge) → o ≡ None → given o ≡ true → A
nothing_given None p q = absurd cc
nothing_given (Some e) p q = absurd cc

module _ (keeps : Bool) (D : Meaning) (es : List Diamond) (k : Key) (gave : Key → Option Edge) where
  -- after a refusal that leaves the map
  pub map_left : (x : Refusal) (r : Result Edge Refusal) → r ≡ Err x → eqb (refusal_number x) 7 ≡ false → Remembers D es gave → MapAfter keeps D es k r gave gave
  map_left x r p n m = record {
    emptied = λ h j. absurd cc;
    left = λ y q h j. refl;
    found = λ h j. refl;
    right = m;
    noted = λ h e q. absurd cc;
  }

  -- after a call that was found
  pub map_found : (gives : Key → Option Edge) (e : Edge) (r : Result Edge Refusal) → r ≡ Ok e → gave k ≡ Some e → ((j : Key) → gives j ≡ gave j) → Remembers D es gives → MapAfter keeps D es k r gave gives
  map_found gives e r p g same m = record {
    emptied = λ h j. absurd cc;
    left = λ x q h. absurd cc;
    found = λ h. same;
    right = m;
    noted = λ h d q. same k ∙ g ∙ cc;
  }

  -- after a call that was worked out
  pub map_noted : (gives : Key → Option Edge) (e : Edge) (r : Result Edge Refusal) → r ≡ Ok e → gave k ≡ None → (keeps ≡ true → gives k ≡ Some e) → Remembers D es gives → MapAfter keeps D es k r gave gives
  map_noted gives e r p g kept m = record {
    emptied = λ h j. absurd cc;
    left = λ x q h. absurd cc;
    found = λ h. nothing_given (gave k) g h;
    right = m;
    noted = λ h d q. kept h ∙ cc;
  }

  -- after refusal 7
  pub map_emptied : (gives : Key → Option Edge) (r : Result Edge Refusal) → r ≡ Err Full → gave k ≡ None → ((j : Key) → gives j ≡ None) → MapAfter keeps D es k r gave gives
  map_emptied gives r p g none = record {
    emptied = λ h. none;
    left = λ x q h j. absurd cc;
    found = λ h. nothing_given (gave k) g h;
    right = λ j e q. let u = none j in absurd cc;
    noted = λ h e q. absurd cc;
  }

-- after two calls, the first of which was accepted
pub map_twice : (keeps : Bool) (D : Meaning) (es fs : List Diamond) (k : Key) (e : Edge) (r q : Result Edge Refusal) (gave between gives : Key → Option Edge) → r ≡ Ok e → q ≡ Ok e →
    MapAfter keeps D es k r gave between → MapAfter keeps D fs k q between gives → MapAfter keeps D fs k r gave gives
map_twice keeps D es fs k e r q gave between gives p s m n = record {
  emptied = λ h j. absurd cc;
  left = λ x t h. absurd cc;
  found = λ h j. n.found (ap given (m.found h k) ∙ h) j ∙ m.found h j;
  right = n.right;
  noted = λ h d t. n.noted h d (s ∙ sym p ∙ t);
}

-- Answers --

-- an answer is that of the step
pub answered_ok : (f : Bool) (r : Result Edge Refusal) (x : Combined) → Ok x ≡ answered f r → (r ≡ Ok x.edge) × (x.found ≡ f)
answered_ok f (Ok e) x p = let q : x ≡ record { edge = e; found = f } = cc in (ap (λ (y : Combined). Ok y.edge) (sym q), ap (λ (y : Combined). y.found) q)
answered_ok f (Err y) x p = absurd cc

pub answered_err : (f : Bool) (r : Result Edge Refusal) (x : Refusal) → Err x ≡ answered f r → r ≡ Err x
answered_err f (Ok e) x p = absurd cc
answered_err f (Err y) x p = let q : x ≡ y = cc in ap Err (sym q)

-- Negation --

module _ (D : Meaning) (ds : List Diamond) (w : HeldWell D ds) (e : Edge) where
  -- the combination of an edge with itself by not the first is its negation
  pub not_first_step : combine_step D ds 3 e e ≡ negate_step D ds e
  not_first_step = go (accepted_in D ds e) refl
    where
      level : eqb (arity_in ds e) (arity_in ds e) ≡ true
      level = eq-eqb (arity_in ds e) (arity_in ds e) refl

      go : (b : Bool) → accepted_in D ds e ≡ b → combine_step D ds 3 e e ≡ negate_step D ds e
      go true h = simp (h, level) (ap (inserted D ds) (negated_by (connective 3) (rule_in ds e) refl refl))
      go false h = simp h

  -- where the dialect negates it is the other mark, and adds nothing
  pub opposite_step : D.negates ≡ true → negate_step D ds e ≡ (cond (accepted_in D ds e) (Ok (other_mark e)) (Err NotAccepted), ds)
  opposite_step n = go (accepted_in D ds e) refl
    where
      go : (b : Bool) → accepted_in D ds e ≡ b →
          ◌≡◌ {A = Outcome} (cond b (inserted D ds (negate (rule_in ds e))) (Err NotAccepted, ds)) (cond b (Ok (other_mark e)) (Err NotAccepted), ds)
      go true h = let o = other_right D ds w e n h in known D ds w (negate (rule_in ds e)) (other_mark e) o.0 o.1
      go false h = refl

  negated_right : (x : Edge) (es : List Diamond) → ◌≡◌ {A = Outcome} (negate_step D ds e) (Ok x, es) → Answered D ds (negate (rule_in ds e)) es x
  negated_right x es p =
      let f : joint ds 3 e e ≡ negate (rule_in ds e) = negated_by (connective 3) (rule_in ds e) refl refl in
      subst (λ (g : Rule). Answered D ds g es x) f (step_right D ds w 3 e e x es (not_first_step ∙ p))

  pub negated_made : (r : Result Edge Refusal) (es : List Diamond) → r ≡ (negate_step D ds e).0 → es ≡ (negate_step D ds e).1 → IfOk r (λ x. Answered D ds (negate (rule_in ds e)) es x)
  negated_made (Ok x) es p q = negated_right x es (sym (ap₂ (λ (r : Result Edge Refusal) (xs : List Diamond). (r, xs)) p q))
  negated_made (Err x) es p q = tt
