-- Combinations whose result stands: what they say, and that they last while diamonds are added.
use Rattle.std.proofs.Common.{◌≡◌, ℕ, zero, suc, ◌≤◌, Bool, true, false, cond, ◌&&◌, eqb, leb, List, [], ◌∷◌, ◌++◌, get_or, replicate, Some, None, Ok, Err, Option, sym, refl, ap, ◌∙◌, subst, ap₂, ⊎_elim, arith}
use Rattle.std.proofs.lemmas.Bool.{leb-true, le-leb, eqb-true, eq-eqb, and_parts, and_from}
use Rattle.diagram.specs.declared.edges.Edge.{Edge}
use Rattle.diagram.specs.declared.edges.Diamond.{Diamond}
use Rattle.diagram.specs.declared.meanings.Meaning.{Meaning}
use Rattle.diagram.specs.declared.refusals.Refusal.{Refusal}
use Rattle.diagram.specs.declared.refusals.Refusal.TheVariants.{NotAccepted, AritiesDiffer, NoConnective}
use Rattle.diagram.specs.Rules.{Rule, constant, ◌⋆◌, arity, Balanced, pointwise, connective}
use Rattle.diagram.specs.Acceptance.{Grown}
use Rattle.diagram.specs.Records.{edge_of, store_of, diamond_of, arity_in, accepted_in}
use Rattle.diagram.specs.RecordTheorems.{rule_in, Answered}
use Rattle.diagram.proofs.Laws.{beq_eq}
use Rattle.diagram.proofs.Main.{main}
use Rattle.diagram.proofs.Placed.{arity_record}
use Rattle.diagram.proofs.Told.{balanced_rule, balanced_pointwise, arity_pointwise}
use Rattle.diagram.proofs.Recorded.{edge_back, diamonds_back, store_push}
use Rattle.diagram.proofs.Recording.{normal_of, acceptable_in, spelled_in, accepted_lasts}
use Rattle.cache.specs.declared.entries.Key.{Key}
use Rattle.cache.specs.declared.entries.Entry.{Entry}
use Rattle.cache.specs.declared.tables.Table.{Table}
use Rattle.cache.specs.Tables.{Stands}
use Rattle.cache.specs.Caches.{Noted}
use Rattle.engine.specs.declared.states.State.{State}
use Rattle.engine.specs.Steps.{Outcome, kept, inserted, joint, combine_step, same_rule, right_for}
use Rattle.engine.specs.Laws.{HeldWell}
use Rattle.engine.proofs.Joining.{kept_same}
use Rattle.engine.proofs.Lawlike.{inserted_right}

-- What a combination asks --

-- a combination that is not refused for its arguments
pub record Asked (D : Meaning) (ds : List Diamond) (c : ℕ) (a b : Edge) : Type 0 where
  pub few : c ≤ 15
  pub left : accepted_in D ds a ≡ true
  pub right : accepted_in D ds b ≡ true
  pub level : arity_in ds a ≡ arity_in ds b

pub asked_step : (D : Meaning) (ds : List Diamond) (c : ℕ) (a b : Edge) → Asked D ds c a b → combine_step D ds c a b ≡ inserted D ds (joint ds c a b)
asked_step D ds c a b k =
    let p = le-leb c 15 k.few in
    let q = and_from (accepted_in D ds a) (accepted_in D ds b) k.left k.right in
    let r = eq-eqb (arity_in ds a) (arity_in ds b) k.level in
    simp (p, q, r)

never : {A : Type 0} (e : Edge) (x : Refusal) (ds es : List Diamond) → ◌≡◌ {A = Outcome} (Err x, ds) (Ok e, es) → A
never e x ds es p = let a = ap (λ (o : Outcome). o.0) p in absurd cc

pub step_asked : (D : Meaning) (ds : List Diamond) (c : ℕ) (a b : Edge) (e : Edge) (es : List Diamond) → ◌≡◌ {A = Outcome} (combine_step D ds c a b) (Ok e, es) → Asked D ds c a b
step_asked D ds c a b e es p = one (leb c 15) refl (accepted_in D ds a && accepted_in D ds b) refl (eqb (arity_in ds a) (arity_in ds b)) refl p
  where
    one : (t : Bool) → leb c 15 ≡ t → (u : Bool) → (accepted_in D ds a && accepted_in D ds b) ≡ u → (v : Bool) → eqb (arity_in ds a) (arity_in ds b) ≡ v →
        ◌≡◌ {A = Outcome} (cond t (cond u (cond v (inserted D ds (joint ds c a b)) (Err AritiesDiffer, ds)) (Err NotAccepted, ds)) (Err NoConnective, ds)) (Ok e, es) → Asked D ds c a b
    one true t true u true v q =
        let w = and_parts (accepted_in D ds a) (accepted_in D ds b) u in
        record { few = leb-true c 15 t; left = w.0; right = w.1; level = eqb-true (arity_in ds a) (arity_in ds b) v }
    one true t true u false v q = never e AritiesDiffer ds es q
    one true t false u v w q = never e NotAccepted ds es q
    one false t u v w x q = never e NoConnective ds es q

-- the rule of a combination has the marks of its edges, at most 20
module _ (D : Meaning) (ds : List Diamond) (w : HeldWell D ds) (c : ℕ) (a b : Edge) (k : Asked D ds c a b) where
  level_rules : arity (rule_in ds a) ≡ arity (rule_in ds b)
  level_rules = arity_record (store_of ds) a ∙ k.level ∙ sym (arity_record (store_of ds) b)

  pub joint_balanced : Balanced (joint ds c a b)
  joint_balanced =
      let n = normal_of D ds w.normal in
      balanced_pointwise (connective c) (rule_in ds a) (rule_in ds b) (balanced_rule D (store_of ds) n (edge_of a)) (balanced_rule D (store_of ds) n (edge_of b)) level_rules

  pub joint_arity : arity (joint ds c a b) ≤ 20
  joint_arity =
      let p = arity_pointwise (connective c) (rule_in ds a) (rule_in ds b) level_rules in
      let q = (acceptable_in D ds a k.left).short in
      omega arith

-- Results that stand --

-- an accepted edge that means the rule f is what inserting f gives, and nothing is added
pub known : (D : Meaning) (ds : List Diamond) → HeldWell D ds → (f : Rule) (e : Edge) → accepted_in D ds e ≡ true → rule_in ds e ≡ f → inserted D ds f ≡ (Ok e, ds)
known D ds w f e a p =
    ap (kept ds) (main D w.lawful (store_of ds) (normal_of D ds w.normal) f (edge_of e) (acceptable_in D ds e a).accepted p)
    ∙ kept_same ds (edge_of e) w.normal.1 w.few
    ∙ ap (λ (x : Edge). (Ok x, ds)) (edge_back e (spelled_in D ds e a))

-- the edge of a combination whose result stands is accepted, and means what it should
pub stood : (D : Meaning) (ds : List Diamond) → HeldWell D ds → (c : ℕ) (a b e : Edge) → ◌≡◌ {A = Outcome} (combine_step D ds c a b) (Ok e, ds) →
    Asked D ds c a b × (accepted_in D ds e ≡ true) × (rule_in ds e ≡ joint ds c a b)
stood D ds w c a b e p =
    let k = step_asked D ds c a b e ds p in
    let r = (inserted_right D ds w (joint ds c a b) (joint_balanced D ds w c a b k) (joint_arity D ds w c a b k) e ds (sym (asked_step D ds c a b k) ∙ p)).0 in
    (k, r.accepted, r.means)

-- a combination that is answered is answered rightly
pub step_right : (D : Meaning) (ds : List Diamond) → HeldWell D ds → (c : ℕ) (a b e : Edge) (es : List Diamond) → ◌≡◌ {A = Outcome} (combine_step D ds c a b) (Ok e, es) → Answered D ds (joint ds c a b) es e
step_right D ds w c a b e es p =
    let k = step_asked D ds c a b e es p in
    (inserted_right D ds w (joint ds c a b) (joint_balanced D ds w c a b k) (joint_arity D ds w c a b k) e es (sym (asked_step D ds c a b k) ∙ p)).0

-- accepted edges last among diamonds that were added to
pub lasts : (D : Meaning) (ds es : List Diamond) → HeldWell D es → Grown (store_of ds) (store_of es) → (e : Edge) → accepted_in D ds e ≡ true →
    (accepted_in D es e ≡ true) × (rule_in es e ≡ rule_in ds e)
lasts D ds es w g e a =
    subst (λ (xs : List Diamond). (accepted_in D xs e ≡ true) × (rule_in xs e ≡ rule_in ds e)) (diamonds_back es w.normal.1) (accepted_lasts D ds (store_of es) g e a)

pub lasts_arity : (D : Meaning) (ds es : List Diamond) → HeldWell D es → Grown (store_of ds) (store_of es) → (e : Edge) → accepted_in D ds e ≡ true → arity_in es e ≡ arity_in ds e
lasts_arity D ds es w g e a = sym (arity_record (store_of es) e) ∙ ap arity (lasts D ds es w g e a).1 ∙ arity_record (store_of ds) e

pub asked_lasts : (D : Meaning) (ds es : List Diamond) → HeldWell D es → Grown (store_of ds) (store_of es) → (c : ℕ) (a b : Edge) → Asked D ds c a b →
    Asked D es c a b × (joint es c a b ≡ joint ds c a b)
asked_lasts D ds es w g c a b k =
    let l = lasts D ds es w g a k.left in
    let r = lasts D ds es w g b k.right in (
      record {
        few = k.few;
        left = l.0;
        right = r.0;
        level = lasts_arity D ds es w g a k.left ∙ k.level ∙ sym (lasts_arity D ds es w g b k.right);
      },
      ap₂ (pointwise (connective c)) l.1 r.1,
    )

-- a result that stands goes on standing
pub stands_on : (D : Meaning) (ds es : List Diamond) → HeldWell D ds → HeldWell D es → Grown (store_of ds) (store_of es) → (c : ℕ) (a b e : Edge) →
    ◌≡◌ {A = Outcome} (combine_step D ds c a b) (Ok e, ds) → ◌≡◌ {A = Outcome} (combine_step D es c a b) (Ok e, es)
stands_on D ds es v w g c a b e p =
    let s = stood D ds v c a b e p in
    let k = asked_lasts D ds es w g c a b s.0 in
    let l = lasts D ds es w g e s.1 in
    asked_step D es c a b k.0 ∙ known D es w (joint es c a b) e l.0 (l.1 ∙ s.2 ∙ sym k.1)

pub grown_push : (ds : List Diamond) (d : Diamond) → Grown (store_of ds) (store_of (ds ++ (d ∷ [])))
grown_push ds d = (diamond_of d ∷ [], store_push ds d)

-- Tests --

pub rule_told : (f g : Rule) → same_rule f g ≡ true → f ≡ g
rule_told (constant a) (constant b) h = ap constant (beq_eq a b h)
rule_told (constant a) (g ⋆ g') h = absurd cc
rule_told (f ⋆ f') (constant b) h = absurd cc
rule_told (f ⋆ f') (g ⋆ g') h =
    let p = and_parts (same_rule f g) (same_rule f' g') h in
    ap₂ ◌⋆◌ (rule_told f g p.0) (rule_told f' g' p.1)

pub rule_same : (f : Rule) → same_rule f f ≡ true
rule_same (constant true) = refl
rule_same (constant false) = refl
rule_same (f ⋆ g) = and_from (same_rule f f) (same_rule g g) (rule_same f) (rule_same g)

pub right_met : (D : Meaning) (ds : List Diamond) → HeldWell D ds → (k : Key) (e : Edge) → ◌≡◌ {A = Outcome} (combine_step D ds k.connective k.left k.right) (Ok e, ds) → right_for D ds k e ≡ true
right_met D ds w k e p =
    let s = stood D ds w k.connective k.left k.right e p in
    let a = s.0 in
    let f = joint ds k.connective k.left k.right in
    let x : (accepted_in D ds e && same_rule (rule_in ds e) f) ≡ true =
    and_from (accepted_in D ds e) (same_rule (rule_in ds e) f) s.1 (ap (λ (g : Rule). same_rule g f) s.2 ∙ rule_same f) in
    let y : (eqb (arity_in ds k.left) (arity_in ds k.right) && (accepted_in D ds e && same_rule (rule_in ds e) f)) ≡ true =
    and_from (eqb (arity_in ds k.left) (arity_in ds k.right)) (accepted_in D ds e && same_rule (rule_in ds e) f) (eq-eqb (arity_in ds k.left) (arity_in ds k.right) a.level) x in
    simp (le-leb k.connective 15 a.few, a.left, a.right) y

pub right_read : (D : Meaning) (ds : List Diamond) → HeldWell D ds → (k : Key) (e : Edge) → right_for D ds k e ≡ true → ◌≡◌ {A = Outcome} (combine_step D ds k.connective k.left k.right) (Ok e, ds)
right_read D ds w k e p =
    let f = joint ds k.connective k.left k.right in
    let x = accepted_in D ds e && same_rule (rule_in ds e) f in
    let y = eqb (arity_in ds k.left) (arity_in ds k.right) && x in
    let z = accepted_in D ds k.right && y in
    let p₁ = and_parts (leb k.connective 15) (accepted_in D ds k.left && z) p in
    let p₂ = and_parts (accepted_in D ds k.left) z p₁.1 in
    let p₃ = and_parts (accepted_in D ds k.right) y p₂.1 in
    let p₄ = and_parts (eqb (arity_in ds k.left) (arity_in ds k.right)) x p₃.1 in
    let p₅ = and_parts (accepted_in D ds e) (same_rule (rule_in ds e) f) p₄.1 in
    let a : Asked D ds k.connective k.left k.right =
    record { few = leb-true k.connective 15 p₁.0; left = p₂.0; right = p₃.0; level = eqb-true (arity_in ds k.left) (arity_in ds k.right) p₄.0 } in
    asked_step D ds k.connective k.left k.right a ∙ known D ds w f e p₅.0 (rule_told (rule_in ds e) f p₅.1)

pub right_on : (D : Meaning) (ds es : List Diamond) → HeldWell D ds → HeldWell D es → Grown (store_of ds) (store_of es) → (k : Key) (e : Edge) → right_for D ds k e ≡ true → right_for D es k e ≡ true
right_on D ds es v w g k e p = right_met D es w k e (stands_on D ds es v w g k.connective k.left k.right e (right_read D ds v k e p))

-- Tables --

-- nothing stands in an empty table
pub nothing_stands : (n : ℕ) (ps : List (Option Entry)) → ps ≡ replicate n None → (k : Key) (e : Edge) → Stands ps k e → ⊥
nothing_stands n ps p k e h =
    let q : ◌≡◌ {A = Option Entry} None (Some (record { key = k; edge = e })) = sym (ap (λ (xs : List (Option Entry)). get_or xs h.0 None) p ∙ get_d_replicate n h.0) ∙ h.1 in
    cc
  where
    get_d_replicate : (m i : ℕ) → get_or {A = Option Entry} (replicate m None) i None ≡ None
    get_d_replicate zero i = refl
    get_d_replicate (suc m) zero = refl
    get_d_replicate (suc m) (suc i) = get_d_replicate m i

-- a note of an edge that is right leaves every entry right
pub noted_right : (s : State) {keeps : Bool} {after : Table} {gave gives : Key → Option Edge} {key : Key} {edge : Edge} → Noted keeps s.table after gave gives key edge →
    right_for s.profile.meaning s.diamonds key edge ≡ true → (k : Key) (e : Edge) → Stands after k e → right_for s.profile.meaning s.diamonds k e ≡ true
noted_right s {key = key} {edge = edge} n p k e h =
    ⊎_elim
    (λ (old : Stands s.table k e). s.right k e old)
    (λ (own : (k ≡ key) × (e ≡ edge)). rw (own.0, own.1) p)
    (n.adds k e h)
