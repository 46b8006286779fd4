-- What constant, equal and opposite edges settle is right.
use Rattle.std.proofs.Common.{◌≡◌, ℕ, zero, suc, ◌<◌, Bool, true, false, cond, ◌⊎◌, List, [], Some, None, Option, sym, refl, ap, ◌∙◌, subst, ap₂, inl, inr, arith}
use Rattle.diagram.specs.declared.edges.Edge.{Edge as EdgeRecord}
use Rattle.diagram.specs.declared.edges.Diamond.{Diamond as DiamondRecord}
use Rattle.diagram.specs.declared.meanings.Meaning.{Meaning}
use Rattle.diagram.specs.Rules.{Rule, constant, ◌⋆◌, arity, Balanced, negate, full, pointwise}
use Rattle.diagram.specs.Edges.{terminal, Edge, edge, Store, diamond_rule, rule_of}
use Rattle.diagram.specs.Dialects.{is, constant_value}
use Rattle.diagram.specs.Making.{flat, low_half}
use Rattle.diagram.specs.Acceptance.{Acceptable}
use Rattle.diagram.specs.Records.{edge_of, store_of, accepted_in, constant_record, constant_of, other_mark, same_record}
use Rattle.diagram.specs.RecordTheorems.{rule_in}
use Rattle.diagram.proofs.Laws.{arity_negate, sense_flat, sense_flip, negate_negate}
use Rattle.diagram.proofs.Split.{Leaf, split, accepted_flip}
use Rattle.diagram.proofs.Fits.{flat_constant, is_itself}
use Rattle.diagram.proofs.Notions.{Halves}
use Rattle.diagram.proofs.Placed.{arity_record}
use Rattle.diagram.proofs.Recorded.{constant_alike, same_record_eq, constant_there}
use Rattle.diagram.proofs.Recording.{normal_of, acceptable_in, spelled_in, accepted_met}
use Rattle.diagram.proofs.Told.{balanced_rule}
use Rattle.engine.specs.States.{EdgeOfArity}
use Rattle.basics.specs.Settled.{by_one, settled_by}
use Rattle.engine.specs.Laws.{HeldWell}
use Rattle.engine.proofs.Marks.{constant_in}

-- A value for each value --

-- z where the rule is 0, o where it is 1
abbrev applied : Bool → Bool → Rule → Rule
applied z o (constant b) = constant (cond b o z)
applied z o (f ⋆ g) = applied z o f ⋆ applied z o g

applied_same : (f : Rule) → applied false true f ≡ f
applied_same (constant true) = refl
applied_same (constant false) = refl
applied_same (f ⋆ g) = ap₂ ◌⋆◌ (applied_same f) (applied_same g)

applied_other : (f : Rule) → applied true false f ≡ negate f
applied_other (constant true) = refl
applied_other (constant false) = refl
applied_other (f ⋆ g) = ap₂ ◌⋆◌ (applied_other f) (applied_other g)

applied_full : (v : Bool) (f : Rule) → Balanced f → applied v v f ≡ full (arity f) v
applied_full v (constant true) ev = refl
applied_full v (constant false) ev = refl
applied_full v (f ⋆ g) ev = ap₂ ◌⋆◌ (applied_full v f ev.0) (applied_full v g ev.1 ∙ ap (λ (n : ℕ). full n v) (sym ev.2))

-- Connectives of constant, equal and opposite rules --

with_left : (op : Bool → Bool → Bool) (v : Bool) (g : Rule) → Balanced g → pointwise op (full (arity g) v) g ≡ applied (op v false) (op v true) g
with_left op v (constant true) ev = refl
with_left op v (constant false) ev = refl
with_left op v (g ⋆ h) ev =
    ap₂ ◌⋆◌ (with_left op v g ev.0) (ap (λ (n : ℕ). pointwise op (full n v) h) ev.2 ∙ with_left op v h ev.1)

with_right : (op : Bool → Bool → Bool) (w : Bool) (f : Rule) → Balanced f → pointwise op f (full (arity f) w) ≡ applied (op false w) (op true w) f
with_right op w (constant true) ev = refl
with_right op w (constant false) ev = refl
with_right op w (f ⋆ g) ev =
    ap₂ ◌⋆◌ (with_right op w f ev.0) (ap (λ (n : ℕ). pointwise op g (full n w)) ev.2 ∙ with_right op w g ev.1)

pub with_itself : (op : Bool → Bool → Bool) (f : Rule) → pointwise op f f ≡ applied (op false false) (op true true) f
with_itself op (constant true) = refl
with_itself op (constant false) = refl
with_itself op (f ⋆ g) = ap₂ ◌⋆◌ (with_itself op f) (with_itself op g)

with_other : (op : Bool → Bool → Bool) (f : Rule) → pointwise op f (negate f) ≡ applied (op false true) (op true false) f
with_other op (constant true) = refl
with_other op (constant false) = refl
with_other op (f ⋆ g) = ap₂ ◌⋆◌ (with_other op f) (with_other op g)

-- not the first, of a rule with itself
pub negated_by : (op : Bool → Bool → Bool) (f : Rule) → op false false ≡ true → op true true ≡ false → pointwise op f f ≡ negate f
negated_by op f p q = with_itself op f ∙ ap₂ (λ (z o : Bool). applied z o f) p q ∙ applied_other f

-- Edges --

flat_value : (D : Meaning) (b : Bool) → constant_value (flat D 0 b) ≡ Some b
flat_value D b = go D.negates b
  where
    go : (m c : Bool) → constant_value (cond m (edge c [] (terminal false)) (edge false [] (terminal c))) ≡ Some c
    go true true = refl
    go true false = refl
    go false true = refl
    go false false = refl

-- an edge of no mark is a constant
leaf_value : {D : Meaning} {s : Store} {e : Edge} {k : Option Bool} → Leaf D s e ⊎ Halves D s e → arity (rule_of s e) ≡ 0 → k ≡ constant_value e → (b : Bool) × (k ≡ Some b)
leaf_value {D} {s} {e} {k} (inl x) z p = (x.bit, p ∙ ap constant_value x.is ∙ flat_value D x.bit)
leaf_value {D} {s} {e} {k} (inr x) z p = let q : arity (rule_of s e) ≡ suc (arity (rule_of s (low_half D s e))) = ap arity x.rule in absurd (omega arith)

module _ (D : Meaning) (ds : List DiamondRecord) (w : HeldWell D ds) where
  balanced_in : (e : EdgeRecord) → Balanced (rule_in ds e)
  balanced_in e = balanced_rule D (store_of ds) (normal_of D ds w.normal) (edge_of e)

  pub constant_means : (n : ℕ) (b : Bool) → rule_in ds (constant_record D n b) ≡ full n b
  constant_means n b = ap (rule_of (store_of ds)) (constant_there D n b) ∙ sense_flat (diamond_rule (store_of ds)) D n b

  -- the edge with the other mark is accepted where the dialect negates, and means the negation
  pub other_right : (e : EdgeRecord) → D.negates ≡ true → accepted_in D ds e ≡ true → (accepted_in D ds (other_mark e) ≡ true) × (rule_in ds (other_mark e) ≡ negate (rule_in ds e))
  other_right e n h =
      let a = acceptable_in D ds e h in
      let r = sense_flip (diamond_rule (store_of ds)) (edge_of e) in
      let l = arity_negate (rule_in ds e) in
      let s = a.short in
      let k = ap arity r in
      let b : Acceptable D (store_of ds) (edge_of (other_mark e)) = record { accepted = accepted_flip D (store_of ds) (edge_of e) n a.accepted; short = omega arith } in
      (accepted_met D ds (other_mark e) (spelled_in D ds e h) b, r)

  -- an edge that is seen as a constant means it
  pub value_means : (e : EdgeRecord) (n : ℕ) (b : Bool) → EdgeOfArity D ds e n → constant_of e ≡ Some b → rule_in ds e ≡ full n b
  value_means e n b a h =
      let k = flat_constant D (store_of ds) (edge_of e) b (acceptable_in D ds e a.accepted).accepted (ap (is b) (sym (constant_alike e (spelled_in D ds e a.accepted)) ∙ h) ∙ is_itself b) in
      let m : arity (rule_in ds e) ≡ n = arity_record (store_of ds) e ∙ a.marks in
      ap (rule_of (store_of ds)) k ∙ sense_flat (diamond_rule (store_of ds)) D (arity (rule_in ds e)) b ∙ ap (λ (j : ℕ). full j b) m

  -- the edge e is accepted and means f
  abbrev Right : Rule → EdgeRecord → Type 0
  Right f e = (accepted_in D ds e ≡ true) × (rule_in ds e ≡ f)

  flat_right : (b : Bool) (e : EdgeRecord) (n : ℕ) (r : EdgeRecord) → EdgeOfArity D ds e n → constant_record D n b ≡ r → Right (applied b b (rule_in ds e)) r
  flat_right b e n r a q =
      let l : arity (rule_in ds e) ≡ n = arity_record (store_of ds) e ∙ a.marks in
      let s = (acceptable_in D ds e a.accepted).short in
      subst (Right (applied b b (rule_in ds e))) q
      (constant_in D ds n b (omega arith), constant_means n b ∙ ap (λ (j : ℕ). full j b) (sym l) ∙ sym (applied_full b (rule_in ds e) (balanced_in e)))

  by_one_right : (z o : Bool) (e : EdgeRecord) (n : ℕ) (r : EdgeRecord) → EdgeOfArity D ds e n → by_one D z o e n ≡ Some r → Right (applied z o (rule_in ds e)) r
  by_one_right false false e n r a p = flat_right false e n r a (let q : constant_record D n false ≡ r = cc in q)
  by_one_right true true e n r a p = flat_right true e n r a (let q : constant_record D n true ≡ r = cc in q)
  by_one_right false true e n r a p =
      let q : e ≡ r = cc in
      subst (Right (applied false true (rule_in ds e))) q (a.accepted, sym (applied_same (rule_in ds e)))
  by_one_right true false e n r a p = go D.negates refl p
    where
      go : (b : Bool) → D.negates ≡ b → cond b (Some (other_mark e)) None ≡ Some r → Right (applied true false (rule_in ds e)) r
      go true m q =
          let t = other_right e m a.accepted in
          let u : other_mark e ≡ r = cc in
          subst (Right (applied true false (rule_in ds e))) u (t.0, t.1 ∙ sym (applied_other (rule_in ds e)))
      go false m q = absurd cc

  -- What is settled --

  module _ (op : Bool → Bool → Bool) (a b : EdgeRecord) (n : ℕ) (ha : EdgeOfArity D ds a n) (hb : EdgeOfArity D ds b n) where
    marks_a : arity (rule_in ds a) ≡ n
    marks_a = arity_record (store_of ds) a ∙ ha.marks

    marks_b : arity (rule_in ds b) ≡ n
    marks_b = arity_record (store_of ds) b ∙ hb.marks

    abbrev target : Rule
    target = pointwise op (rule_in ds a) (rule_in ds b)

    settled_at : (v w : Option Bool) → constant_of a ≡ v → constant_of b ≡ w → (r : EdgeRecord) → settled_by D op v w a b n ≡ Some r → Right target r
    settled_at (Some v) (Some w) p q r h =
        let c : constant_record D n (op v w) ≡ r = cc in
        let f = value_means a n v ha p in
        let g = value_means b n w hb q in
        let t : target ≡ applied (op v w) (op v w) (rule_in ds b) =
        ap₂ (pointwise op) f g ∙ both n ∙ ap (λ (j : ℕ). full j (op v w)) (sym marks_b) ∙ sym (applied_full (op v w) (rule_in ds b) (balanced_in b)) in
        subst (λ (x : Rule). Right x r) (sym t) (flat_right (op v w) b n r hb c)
      where
        both : (m : ℕ) → pointwise op (full m v) (full m w) ≡ full m (op v w)
        both zero = refl
        both (suc m) = ap₂ ◌⋆◌ (both m) (both m)
    settled_at (Some v) None p q r h =
        let f = value_means a n v ha p in
        let t : target ≡ applied (op v false) (op v true) (rule_in ds b) =
        ap (λ (x : Rule). pointwise op x (rule_in ds b)) (f ∙ ap (λ (j : ℕ). full j v) (sym marks_b)) ∙ with_left op v (rule_in ds b) (balanced_in b) in
        subst (λ (x : Rule). Right x r) (sym t) (by_one_right (op v false) (op v true) b n r hb h)
    settled_at None (Some w) p q r h =
        let g = value_means b n w hb q in
        let t : target ≡ applied (op false w) (op true w) (rule_in ds a) =
        ap (pointwise op (rule_in ds a)) (g ∙ ap (λ (j : ℕ). full j w) (sym marks_a)) ∙ with_right op w (rule_in ds a) (balanced_in a) in
        subst (λ (x : Rule). Right x r) (sym t) (by_one_right (op false w) (op true w) a n r ha h)
    settled_at None None p q r h = go (same_record a b) refl (same_record a (other_mark b)) refl h
      where
        go : (x : Bool) → same_record a b ≡ x → (y : Bool) → same_record a (other_mark b) ≡ y →
            cond x (by_one D (op false false) (op true true) a n) (cond y (by_one D (op false true) (op true false) a n) None) ≡ Some r → Right target r
        go true e y i k =
            let c = same_record_eq a b e in
            let t : target ≡ applied (op false false) (op true true) (rule_in ds a) = ap (λ (x : EdgeRecord). pointwise op (rule_in ds a) (rule_in ds x)) (sym c) ∙ with_itself op (rule_in ds a) in
            subst (λ (x : Rule). Right x r) (sym t) (by_one_right (op false false) (op true true) a n r ha k)
        go false e true i k =
            let c = same_record_eq a (other_mark b) i in
            let m : rule_in ds b ≡ negate (rule_in ds a) =
            sym (negate_negate (rule_in ds b)) ∙ ap negate (sym (sense_flip (diamond_rule (store_of ds)) (edge_of b)) ∙ ap (rule_in ds) (sym c)) in
            let t : target ≡ applied (op false true) (op true false) (rule_in ds a) = ap (pointwise op (rule_in ds a)) m ∙ with_other op (rule_in ds a) in
            subst (λ (x : Rule). Right x r) (sym t) (by_one_right (op false true) (op true false) a n r ha k)
        go false e false i k = absurd cc

    -- what is settled is accepted and means the combination
    pub settled_right : (r : EdgeRecord) → settled_by D op (constant_of a) (constant_of b) a b n ≡ Some r → Right target r
    settled_right r h = settled_at (constant_of a) (constant_of b) refl refl r h

    -- edges of no mark are constant, so that their combination is settled
    pub unsettled_marks : settled_by D op (constant_of a) (constant_of b) a b n ≡ None → 0 < n
    unsettled_marks h = go n refl
      where
        leaf : (e : EdgeRecord) → EdgeOfArity D ds e n → n ≡ 0 → (x : Bool) × (constant_of e ≡ Some x)
        leaf e k z = leaf_value (split D w.lawful (store_of ds) (normal_of D ds w.normal) (edge_of e) (acceptable_in D ds e k.accepted).accepted) (arity_record (store_of ds) e ∙ k.marks ∙ z) (constant_alike e (spelled_in D ds e k.accepted))

        go : (m : ℕ) → n ≡ m → 0 < n
        go zero z =
            let x = leaf a ha z in
            let y = leaf b hb z in
            let t : settled_by D op (Some x.0) (Some y.0) a b n ≡ None = sym (ap₂ (λ (u v : Option Bool). settled_by D op u v a b n) x.1 y.1) ∙ h in
            absurd cc
        go (suc m) z = omega arith
