-- Combining by halves: what is inserted for the low halves, then for the high halves, and made from the two, is what is inserted for the whole.
use Rattle.std.proofs.Common.{◌≡◌, ℕ, ◌<◌, ◌≤◌, Bool, true, false, cond, leb, List, length, take, MatchOption, IfOk, Some, None, Ok, Err, Option, Result, sym, ap, ◌∙◌, subst, ap₂, arith, take_all, take-take}
use Rattle.std.proofs.lemmas.Bool.{lt-leb}
use Rattle.diagram.specs.declared.edges.Edge.{Edge as EdgeRecord}
use Rattle.diagram.specs.declared.edges.Diamond.{Diamond as DiamondRecord}
use Rattle.diagram.specs.declared.meanings.Meaning.{Meaning}
use Rattle.diagram.specs.declared.refusals.Refusal.{Refusal}
use Rattle.diagram.specs.declared.refusals.Refusal.TheVariants.{Full}
use Rattle.diagram.specs.Rules.{Rule, constant, ◌⋆◌, arity, Balanced, connective}
use Rattle.diagram.specs.Edges.{Edge, Diamond, pair, Store, flip}
use Rattle.diagram.specs.Making.{Made, find, seat, add, make_by, make, choose, insert}
use Rattle.diagram.specs.Acceptance.{Grown}
use Rattle.diagram.specs.Records.{edge_of, store_of, edge_record, diamonds_of, accepted_in}
use Rattle.diagram.specs.RecordTheorems.{rule_in}
use Rattle.diagram.proofs.Sound.{insert_sound}
use Rattle.diagram.proofs.Recorded.{edge_there, store_there, store_length}
use Rattle.diagram.proofs.Recording.{normal_of}
use Rattle.cache.specs.declared.entries.Key.{Key}
use Rattle.engine.specs.declared.states.State.{State}
use Rattle.engine.specs.Steps.{Outcome, kept, inserted, joint, combine_step, right_for}
use Rattle.basics.specs.Settled.{settled}
use Rattle.engine.specs.States.{KeyOfArity, Joined, HalvesFit}
use Rattle.engine.specs.Laws.{HeldWell}
use Rattle.engine.proofs.Lawlike.{kept_parts, inserted_right, inserted_refused, state_well}
use Rattle.engine.proofs.Remembered.{Asked, asked_step, step_asked, joint_balanced, joint_arity, known, lasts, lasts_arity, asked_lasts, right_met, right_read}
use Rattle.engine.proofs.Decided.{settled_right, unsettled_marks}

-- Stores only grow --

seat_longer : (o : Option ℕ) (s : Store) (n : Diamond) → length s ≤ length (seat o s n).0
seat_longer None s n = omega arith
seat_longer (Some k) s n = omega arith

make_longer : (D : Meaning) (s : Store) (l h : Edge) → length s ≤ length (make D s l h).0
make_longer D s l h = go (choose D l h)
  where
    by : (b : Bool) → length s ≤ length (cond {A = Made} b ((add s (flip l) (flip h)).0, flip (add s (flip l) (flip h)).1) (add s l h)).0
    by true = seat_longer (find s (pair (flip l) (flip h))) s (pair (flip l) (flip h))
    by false = seat_longer (find s (pair l h)) s (pair l h)

    go : (o : Option Edge) → length s ≤ length (make_by o s l h).0
    go (Some e) = omega arith
    go None = by l.negated

insert_longer : (D : Meaning) (s : Store) (f : Rule) → length s ≤ length (insert D s f).0
insert_longer D s (constant b) = omega arith
insert_longer D s (f ⋆ g) =
    let a : Made = insert D s f in
    let b : Made = insert D a.0 g in
    let p = insert_longer D s f in
    let q = insert_longer D a.0 g in
    let r = make_longer D b.0 a.1 b.1 in
    omega arith

-- Refusals --

over_refused : (ds : List DiamondRecord) (m : Made) → 1024 < length m.0 → (kept ds m).0 ≡ Err Full
over_refused ds m h = let p = lt-leb (length m.0) 1024 h in simp p

-- what was refused would have been too much
refused_over : (D : Meaning) (ds : List DiamondRecord) (f : Rule) (x : Refusal) → Err x ≡ (inserted D ds f).0 → (x ≡ Full) × (1024 < length (insert D (store_of ds) f).0)
refused_over D ds f x p =
    let q : ◌≡◌ {A = Outcome} (inserted D ds f) (Err x, (inserted D ds f).1) = ap (λ (r : Result EdgeRecord Refusal). (r, (inserted D ds f).1)) (sym p) in
    let r = inserted_refused D ds f x (inserted D ds f).1 q in
    (r.0, r.2)

-- what is refused leaves the diamonds
kept_back : (ds : List DiamondRecord) (m : Made) (x : Refusal) (xs : List DiamondRecord) → ◌≡◌ {A = Outcome} (Err x, xs) (kept ds m) → xs ≡ ds
kept_back ds m x xs p = go (leb (length m.0) 1024) p
  where
    go : (b : Bool) → ◌≡◌ {A = Outcome} (Err x, xs) (cond b (Ok (edge_record m.1), diamonds_of m.0) (Err Full, ds)) → xs ≡ ds
    go true q =
        let a : Err x ≡ Ok (edge_record m.1) = ap (λ (o : Outcome). o.0) q in
        let z : ◌≡◌ {A = ℕ} 0 1 = cc in
        absurd (omega arith)
    go false q = ap (λ (o : Outcome). o.1) q

pub low_refused : (D : Meaning) (ds : List DiamondRecord) (f g : Rule) (x : Refusal) → Err x ≡ (inserted D ds f).0 → Err x ≡ (inserted D ds (f ⋆ g)).0
low_refused D ds f g x p =
    let r = refused_over D ds f x p in
    let a : Made = insert D (store_of ds) f in
    let b : Made = insert D a.0 g in
    let i = insert_longer D a.0 g in
    let j = make_longer D b.0 a.1 b.1 in
    let k = r.1 in
    ap Err r.0 ∙ sym (over_refused ds (insert D (store_of ds) (f ⋆ g)) (omega arith))

module _ (D : Meaning) (ds : List DiamondRecord) (f : Rule) (e : EdgeRecord) (es : List DiamondRecord) (p : ◌≡◌ {A = Outcome} (inserted D ds f) (Ok e, es)) where
  low_parts : (edge_of e ≡ (insert D (store_of ds) f).1) × (store_of es ≡ (insert D (store_of ds) f).0)
  low_parts =
      let m : Made = insert D (store_of ds) f in
      let k = kept_parts ds m e es p in
      (ap edge_of (sym k.0) ∙ edge_there m.1, ap store_of (sym k.1) ∙ store_there m.0)

  pub high_refused : (g : Rule) (x : Refusal) → Err x ≡ (inserted D es g).0 → Err x ≡ (inserted D ds (f ⋆ g)).0
  high_refused g x q =
      let r = refused_over D es g x q in
      let a : Made = insert D (store_of ds) f in
      let b : Made = insert D a.0 g in
      let j = make_longer D b.0 a.1 b.1 in
      let k : 1024 < length b.0 = subst (λ (s : Store). 1024 < length (insert D s g).0) low_parts.1 r.1 in
      ap Err r.0 ∙ sym (over_refused ds (insert D (store_of ds) (f ⋆ g)) (omega arith))

  module _ (g : Rule) (d : EdgeRecord) (xs : List DiamondRecord) (q : ◌≡◌ {A = Outcome} (inserted D es g) (Ok d, xs)) where
    both_made : make D (store_of xs) (edge_of e) (edge_of d) ≡ insert D (store_of ds) (f ⋆ g)
    both_made =
        let a : Made = insert D (store_of ds) f in
        let k = kept_parts es (insert D (store_of es) g) d xs q in
        let m : insert D (store_of es) g ≡ insert D a.0 g = ap (λ (s : Store). insert D s g) low_parts.1 in
        let u : edge_of d ≡ (insert D a.0 g).1 = ap edge_of (sym k.0) ∙ edge_there (insert D (store_of es) g).1 ∙ ap (λ (z : Made). z.1) m in
        let v : store_of xs ≡ (insert D a.0 g).0 = ap store_of (sym k.1) ∙ store_there (insert D (store_of es) g).0 ∙ ap (λ (z : Made). z.0) m in
        ap (λ (s : Store). make D s (edge_of e) (edge_of d)) v
        ∙ ap (λ (x : Edge). make D (insert D a.0 g).0 x (edge_of d)) low_parts.0
        ∙ ap (make D (insert D a.0 g).0 a.1) u

    -- what is made from both is kept, or refused, as the whole is
    pub both_kept : (r : Result EdgeRecord Refusal) (ys : List DiamondRecord) → ◌≡◌ {A = Outcome} (r, ys) (kept xs (make D (store_of xs) (edge_of e) (edge_of d))) →
        (r ≡ (inserted D ds (f ⋆ g)).0) × IfOk r (λ x. ys ≡ (inserted D ds (f ⋆ g)).1)
    both_kept r ys t = go (leb (length (insert D (store_of ds) (f ⋆ g)).0) 1024) (t ∙ ap (kept xs) both_made)
      where
        go : (b : Bool) →
            ◌≡◌ {A = Outcome} (r, ys) (cond b (Ok (edge_record (insert D (store_of ds) (f ⋆ g)).1), diamonds_of (insert D (store_of ds) (f ⋆ g)).0) (Err Full, xs)) →
            (r ≡ (cond {A = Outcome} b (Ok (edge_record (insert D (store_of ds) (f ⋆ g)).1), diamonds_of (insert D (store_of ds) (f ⋆ g)).0) (Err Full, ds)).0)
            × IfOk r (λ x. ys ≡ (cond {A = Outcome} b (Ok (edge_record (insert D (store_of ds) (f ⋆ g)).1), diamonds_of (insert D (store_of ds) (f ⋆ g)).0) (Err Full, ds)).1)
        go true o =
            let a : r ≡ Ok (edge_record (insert D (store_of ds) (f ⋆ g)).1) = ap (λ (z : Outcome). z.0) o in
            let b : ys ≡ diamonds_of (insert D (store_of ds) (f ⋆ g)).0 = ap (λ (z : Outcome). z.1) o in
            (a, subst (λ (z : Result EdgeRecord Refusal). IfOk z (λ x. ys ≡ diamonds_of (insert D (store_of ds) (f ⋆ g)).0)) (sym a) b)
        go false o =
            let a : r ≡ Err Full = ap (λ (z : Outcome). z.0) o in
            (a, subst (λ (z : Result EdgeRecord Refusal). IfOk z (λ x. ys ≡ ds)) (sym a) tt)

-- Diamonds that begin with others --

pub begins_same : (ds : List DiamondRecord) → take (length ds) ds ≡ ds
begins_same ds = take_all (length ds) ds (omega arith)

pub begins_then : (ds es xs : List DiamondRecord) → length ds ≤ length es → take (length ds) es ≡ ds → take (length es) xs ≡ es → take (length ds) xs ≡ ds
begins_then ds es xs l p q = sym (take-take (length ds) (length es) xs l) ∙ ap (take (length ds)) q ∙ p

-- What an answer leaves --

-- an answer that was joined, as an equation
joined_told : (D : Meaning) (ds : List DiamondRecord) (f : Rule) (e : EdgeRecord) (es : List DiamondRecord) → Joined D ds f (Ok e) es → ◌≡◌ {A = Outcome} (inserted D ds f) (Ok e, es)
joined_told D ds f e es j = sym (ap₂ (λ (r : Result EdgeRecord Refusal) (xs : List DiamondRecord). (r, xs)) j.answer j.grown)

module _ (D : Meaning) (ds : List DiamondRecord) (w : HeldWell D ds) (f : Rule) (ev : Balanced f) (l : arity f ≤ 20) (e : EdgeRecord) (es : List DiamondRecord) (p : ◌≡◌ {A = Outcome} (inserted D ds f) (Ok e, es)) where
  pub answer_well : HeldWell D es
  answer_well = (inserted_right D ds w f ev l e es p).1

  pub answer_accepted : accepted_in D es e ≡ true
  answer_accepted = (inserted_right D ds w f ev l e es p).0.accepted

  pub answer_means : rule_in es e ≡ f
  answer_means = (inserted_right D ds w f ev l e es p).0.means

  pub answer_begins : take (length ds) es ≡ ds
  answer_begins = (inserted_right D ds w f ev l e es p).0.begins

  pub answer_grown : Grown (store_of ds) (store_of es)
  answer_grown =
      subst (Grown (store_of ds)) (sym (low_parts D ds f e es p).1)
      (insert_sound D w.lawful (store_of ds) (normal_of D ds w.normal) f ev).grown

  pub answer_longer : length ds ≤ length es
  answer_longer =
      let a = insert_longer D (store_of ds) f in
      let b = ap length (low_parts D ds f e es p).1 in
      let c = store_length ds in
      let d = store_length es in
      omega arith

-- Keys --

abbrev pub joint_of : List DiamondRecord → Key → Rule
joint_of ds k = joint ds k.connective k.left k.right

module _ (D : Meaning) (ds : List DiamondRecord) (k : Key) (n : ℕ) (h : KeyOfArity D ds k n) where
  pub key_asked : Asked D ds k.connective k.left k.right
  key_asked = record { few = h.few; left = h.left.accepted; right = h.right.accepted; level = h.left.marks ∙ sym h.right.marks }

  pub key_lasts : (es : List DiamondRecord) → HeldWell D es → Grown (store_of ds) (store_of es) → KeyOfArity D es k n × (joint_of es k ≡ joint_of ds k)
  key_lasts es w g =
      let a = asked_lasts D ds es w g k.connective k.left k.right key_asked in (
        record {
          few = h.few;
          left = record { accepted = a.0.left; marks = lasts_arity D ds es w g k.left h.left.accepted ∙ h.left.marks };
          right = record { accepted = a.0.right; marks = lasts_arity D ds es w g k.right h.right.accepted ∙ h.right.marks };
        },
        a.1,
      )

-- The steps of a combination --

module _ (D : Meaning) (ds : List DiamondRecord) (w : HeldWell D ds) (k : Key) (n : ℕ) (a : KeyOfArity D ds k n) where
  pub whole_balanced : Balanced (joint_of ds k)
  whole_balanced = joint_balanced D ds w k.connective k.left k.right (key_asked D ds k n a)

  pub whole_short : arity (joint_of ds k) ≤ 20
  whole_short = joint_arity D ds w k.connective k.left k.right (key_asked D ds k n a)

  -- a result that stands
  pub joined_known : (e : EdgeRecord) → ◌≡◌ {A = Outcome} (combine_step D ds k.connective k.left k.right) (Ok e, ds) → Joined D ds (joint_of ds k) (Ok e) ds
  joined_known e p =
      let q = sym (asked_step D ds k.connective k.left k.right (key_asked D ds k n a)) ∙ p in
      record { answer = ap (λ (o : Outcome). o.0) (sym q); grown = ap (λ (o : Outcome). o.1) (sym q); begins = begins_same ds }

  -- the answer may be remembered
  pub joined_stands : (e : EdgeRecord) (es : List DiamondRecord) → Joined D ds (joint_of ds k) (Ok e) es → ◌≡◌ {A = Outcome} (combine_step D es k.connective k.left k.right) (Ok e, es)
  joined_stands e es j =
      let p = joined_told D ds (joint_of ds k) e es j in
      let v = answer_well D ds w (joint_of ds k) whole_balanced whole_short e es p in
      let g = answer_grown D ds w (joint_of ds k) whole_balanced whole_short e es p in
      let t = key_lasts D ds k n a es v g in
      asked_step D es k.connective k.left k.right (key_asked D es k n t.0)
      ∙ known D es v (joint_of es k) e (answer_accepted D ds w (joint_of ds k) whole_balanced whole_short e es p) (answer_means D ds w (joint_of ds k) whole_balanced whole_short e es p ∙ sym t.1)

  -- the answer is that of the call
  pub joined_step : (e : EdgeRecord) (es : List DiamondRecord) → Joined D ds (joint_of ds k) (Ok e) es → ◌≡◌ {A = Outcome} (combine_step D ds k.connective k.left k.right) (Ok e, es)
  joined_step e es j = asked_step D ds k.connective k.left k.right (key_asked D ds k n a) ∙ joined_told D ds (joint_of ds k) e es j

  -- and so is a refusal, which is 7
  pub refused_step : (x : Refusal) (es : List DiamondRecord) → Joined D ds (joint_of ds k) (Err x) es → ◌≡◌ {A = Outcome} (combine_step D ds k.connective k.left k.right) (Err Full, ds) × (x ≡ Full)
  refused_step x es j =
      let f = joint_of ds k in
      let q : ◌≡◌ {A = Outcome} (inserted D ds f) (Err x, (inserted D ds f).1) = ap (λ (r : Result EdgeRecord Refusal). (r, (inserted D ds f).1)) (sym j.answer) in
      let r = inserted_refused D ds f x (inserted D ds f).1 q in
      (asked_step D ds k.connective k.left k.right (key_asked D ds k n a) ∙ q ∙ ap₂ (λ (y : Refusal) (xs : List DiamondRecord). (Err y, xs)) r.0 r.1, r.0)

-- A rule is inserted by its halves --

module _ (D : Meaning) (ds : List DiamondRecord) (w : HeldWell D ds) (f g : Rule) (ev : Balanced (f ⋆ g)) (s : arity (f ⋆ g) ≤ 20) where
  pub break_low : (x : Refusal) (es : List DiamondRecord) → Joined D ds f (Err x) es → Joined D ds (f ⋆ g) (Err x) es
  break_low x es j = record { answer = low_refused D ds f g x j.answer; grown = tt; begins = j.begins }

  -- the low half was answered
  module _ (e : EdgeRecord) (es : List DiamondRecord) (j : Joined D ds f (Ok e) es) where
    low_short : arity f ≤ 20
    low_short = omega arith

    low_told : ◌≡◌ {A = Outcome} (inserted D ds f) (Ok e, es)
    low_told = joined_told D ds f e es j

    pub low_well : HeldWell D es
    low_well = answer_well D ds w f ev.0 low_short e es low_told

    pub low_grown : Grown (store_of ds) (store_of es)
    low_grown = answer_grown D ds w f ev.0 low_short e es low_told

    low_begins : (xs : List DiamondRecord) → take (length es) xs ≡ es → take (length ds) xs ≡ ds
    low_begins xs b = begins_then ds es xs (answer_longer D ds w f ev.0 low_short e es low_told) j.begins b

    pub break_high : (x : Refusal) (xs : List DiamondRecord) → Joined D es g (Err x) xs → Joined D ds (f ⋆ g) (Err x) xs
    break_high x xs m = record { answer = high_refused D ds f e es low_told g x m.answer; grown = tt; begins = low_begins xs m.begins }

    -- the high half was answered too
    module _ (d : EdgeRecord) (xs : List DiamondRecord) (m : Joined D es g (Ok d) xs) where
      high_short : arity g ≤ 20
      high_short = omega (arith, ev.2)

      high_told : ◌≡◌ {A = Outcome} (inserted D es g) (Ok d, xs)
      high_told = joined_told D es g d xs m

      pub halves_fit : HalvesFit D xs e d
      halves_fit =
          let v = answer_well D es low_well g ev.1 high_short d xs high_told in
          let k = answer_grown D es low_well g ev.1 high_short d xs high_told in
          let c = lasts D es xs v k e (answer_accepted D ds w f ev.0 low_short e es low_told) in
          let u : arity (rule_in xs e) ≡ arity f = ap arity (c.1 ∙ answer_means D ds w f ev.0 low_short e es low_told) in
          let t : arity (rule_in xs d) ≡ arity g = ap arity (answer_means D es low_well g ev.1 high_short d xs high_told) in
          record { low_in = c.0; high_in = answer_accepted D es low_well g ev.1 high_short d xs high_told; level = u ∙ ev.2 ∙ sym t; short = omega arith }

      pub joined_both : (r : Result EdgeRecord Refusal) (ys : List DiamondRecord) → ◌≡◌ {A = Outcome} (r, ys) (kept xs (make D (store_of xs) (edge_of e) (edge_of d))) → Joined D ds (f ⋆ g) r ys
      joined_both r ys o = let t = both_kept D ds f e es low_told g d xs high_told r ys o in record { answer = t.0; grown = t.1; begins = begin r o t.0 t.1 }
        where
          begin : (r : Result EdgeRecord Refusal) → ◌≡◌ {A = Outcome} (r, ys) (kept xs (make D (store_of xs) (edge_of e) (edge_of d))) →
              r ≡ (inserted D ds (f ⋆ g)).0 → IfOk r (λ x. ys ≡ (inserted D ds (f ⋆ g)).1) → take (length ds) ys ≡ ds
          begin (Ok x) o p q = answer_begins D ds w (f ⋆ g) ev s x ys (sym (ap₂ (λ (r : Result EdgeRecord Refusal) (zs : List DiamondRecord). (r, zs)) p q))
          begin (Err x) o p q =
              let t : ys ≡ xs = kept_back xs (make D (store_of xs) (edge_of e) (edge_of d)) x ys o in
              low_begins ys (ap (take (length es)) t ∙ m.begins)

-- a call that was accepted is accepted again, and adds nothing
pub step_again : (D : Meaning) (ds : List DiamondRecord) → HeldWell D ds → (c : ℕ) (a b e : EdgeRecord) (es : List DiamondRecord) → ◌≡◌ {A = Outcome} (combine_step D ds c a b) (Ok e, es) →
    ◌≡◌ {A = Outcome} (combine_step D es c a b) (Ok e, es)
step_again D ds w c a b e es p =
    let k = step_asked D ds c a b e es p in
    let f = joint ds c a b in
    let ev = joint_balanced D ds w c a b k in
    let l = joint_arity D ds w c a b k in
    let q = sym (asked_step D ds c a b k) ∙ p in
    let v = answer_well D ds w f ev l e es q in
    let t = asked_lasts D ds es v (answer_grown D ds w f ev l e es q) c a b k in
    asked_step D es c a b t.0 ∙ known D es v (joint es c a b) e (answer_accepted D ds w f ev l e es q) (answer_means D ds w f ev l e es q ∙ sym t.1)

-- The same, of an engine's state --

module _ (s : State) (k : Key) (n : ℕ) (a : KeyOfArity s.profile.meaning s.diamonds k n) where
  -- a result that was found
  pub joined_found : (e : EdgeRecord) → right_for s.profile.meaning s.diamonds k e ≡ true →
      Joined s.profile.meaning s.diamonds (joint_of s.diamonds k) (Ok e) s.diamonds
  joined_found e h =
      joined_known s.profile.meaning s.diamonds (state_well s) k n a e (right_read s.profile.meaning s.diamonds (state_well s) k e h)

  -- a result that stands may be remembered
  pub joined_right : (e : EdgeRecord) → Joined s.profile.meaning s.diamonds (joint_of s.diamonds k) (Ok e) s.diamonds →
      right_for s.profile.meaning s.diamonds k e ≡ true
  joined_right e j =
      right_met s.profile.meaning s.diamonds (state_well s) k e
      (joined_stands s.profile.meaning s.diamonds (state_well s) k n a e s.diamonds j)

  -- a combination that is settled is answered by its edge, and one that is not has a mark
  pub settled_joined : (r : Option EdgeRecord) → r ≡ settled s.profile.meaning k n →
      MatchOption r (0 < n) (λ e. Joined s.profile.meaning s.diamonds (joint_of s.diamonds k) (Ok e) s.diamonds)
  settled_joined (Some e) h =
      let D = s.profile.meaning in
      let ds = s.diamonds in
      let r = settled_right D ds (state_well s) (connective k.connective) k.left k.right n a.left a.right e (sym h) in
      joined_known D ds (state_well s) k n a e
      (asked_step D ds k.connective k.left k.right (key_asked D ds k n a) ∙ known D ds (state_well s) (joint_of ds k) e r.0 r.1)
  settled_joined None h = unsettled_marks s.profile.meaning s.diamonds (state_well s) (connective k.connective) k.left k.right n a.left a.right (sym h)
