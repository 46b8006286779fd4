-- A combination is that of the unmarked edges, or its negation.
use Rattle.std.proofs.Common.{◌≡◌, ℕ, ◌-◌, ◌≤◌, Bool, true, false, List, Ok, Err, Result, sym, refl, ap, ◌∙◌, subst, ap₂, arith}
use Rattle.diagram.specs.declared.edges.Edge.{Edge}
use Rattle.diagram.specs.declared.edges.Diamond.{Diamond}
use Rattle.diagram.specs.declared.meanings.Meaning.{Meaning}
use Rattle.diagram.specs.declared.refusals.Refusal.{Refusal}
use Rattle.diagram.specs.Rules.{Rule, constant, ◌⋆◌, arity, Balanced, pointwise, connective}
use Rattle.diagram.specs.Edges.{sign}
use Rattle.diagram.specs.Dialects.{flips}
use Rattle.diagram.specs.Records.{edge_of, store_of}
use Rattle.diagram.specs.RecordTheorems.{rule_in}
use Rattle.diagram.proofs.Placed.{arity_record}
use Rattle.diagram.proofs.Recording.{normal_of}
use Rattle.diagram.proofs.Told.{balanced_rule}
use Rattle.basics.specs.Plain.{unmarked, turned, bits, plain_mark, plain_value, plain_key}
use Rattle.cache.specs.declared.entries.Key.{Key}
use Rattle.diagram.specs.Making.{make}
use Rattle.engine.specs.declared.states.State.{State}
use Rattle.dialect.specs.declared.profiles.Profile.{Profile}
use Rattle.basics.specs.declared.plain.Plain.{Plain}
use Rattle.engine.specs.Steps.{Outcome, kept, combine_step, right_for}
use Rattle.engine.specs.States.{KeyOfArity, Halving, HalvesFit, Joined, plain_rule}
use Rattle.engine.specs.Laws.{HeldWell}
use Rattle.engine.proofs.Halfwise.{joint_of, key_lasts, whole_balanced, whole_short, joined_stands, break_low, low_well, low_grown, break_high, halves_fit, joined_both}
use Rattle.engine.proofs.Lawlike.{state_well}
use Rattle.engine.proofs.Remembered.{right_met}
use Rattle.engine.proofs.Negated.{joined_negated}
use Rattle.engine.proofs.Tallied.{unmarked_fit}

-- Rules under marks --

sign_constant : (m b : Bool) → sign m (constant b) ≡ constant (flips m b)
sign_constant true b = refl
sign_constant false b = refl

sign_star : (m : Bool) (f g : Rule) → sign m (f ⋆ g) ≡ sign m f ⋆ sign m g
sign_star true f g = refl
sign_star false f g = refl

signed : (op pl : Bool → Bool → Bool) (l r m : Bool) → ((x y : Bool) → op (flips l x) (flips r y) ≡ flips m (pl x y)) → (f g : Rule) → Balanced f → Balanced g → arity f ≡ arity g →
    pointwise op (sign l f) (sign r g) ≡ sign m (pointwise pl f g)
signed op pl l r m h (constant a) (constant b) p q e =
    ap₂ (pointwise op) (sign_constant l a) (sign_constant r b) ∙ ap constant (h a b) ∙ sym (sign_constant m (pl a b))
signed op pl l r m h (constant a) (g ⋆ g') p q e = absurd (omega arith)
signed op pl l r m h (f ⋆ f') (constant b) p q e = absurd (omega arith)
signed op pl l r m h (f ⋆ f') (g ⋆ g') p q e =
    let i : arity f ≡ arity g = omega arith in
    let j : arity f' ≡ arity g' = omega (arith, p.2, q.2) in
    ap₂ (pointwise op) (sign_star l f f') (sign_star r g g')
    ∙ ap₂ ◌⋆◌ (signed op pl l r m h f g p.0 q.0 i) (signed op pl l r m h f' g' p.1 q.1 j)
    ∙ sym (sign_star m (pointwise pl f g) (pointwise pl f' g'))

-- Connectives --

bits_few : (p q r : Bool) → bits p q r ≤ 15
bits_few false false false = omega arith
bits_few true false false = omega arith
bits_few false true false = omega arith
bits_few true true false = omega arith
bits_few false false true = omega arith
bits_few true false true = omega arith
bits_few false true true = omega arith
bits_few true true true = omega arith

-- the values of the connective with the value 0 at (0,0)
abbrev table : Bool → Bool → Bool → Bool → Bool → Bool
table p q r false false = false
table p q r false true = p
table p q r true false = q
table p q r true true = r

bits_table : (p q r x y : Bool) → connective (bits p q r) x y ≡ table p q r x y
bits_table false false false false false = refl
bits_table false false false false true = refl
bits_table false false false true false = refl
bits_table false false false true true = refl
bits_table true false false false false = refl
bits_table true false false false true = refl
bits_table true false false true false = refl
bits_table true false false true true = refl
bits_table false true false false false = refl
bits_table false true false false true = refl
bits_table false true false true false = refl
bits_table false true false true true = refl
bits_table true true false false false = refl
bits_table true true false false true = refl
bits_table true true false true false = refl
bits_table true true false true true = refl
bits_table false false true false false = refl
bits_table false false true false true = refl
bits_table false false true true false = refl
bits_table false false true true true = refl
bits_table true false true false false = refl
bits_table true false true false true = refl
bits_table true false true true false = refl
bits_table true false true true true = refl
bits_table false true true false false = refl
bits_table false true true false true = refl
bits_table false true true true false = refl
bits_table false true true true true = refl
bits_table true true true false false = refl
bits_table true true true false true = refl
bits_table true true true true false = refl
bits_table true true true true true = refl

flips_back : (m b : Bool) → flips m (flips m b) ≡ b
flips_back true true = refl
flips_back true false = refl
flips_back false b = refl

flips_false : (b : Bool) → flips b false ≡ b
flips_false true = refl
flips_false false = refl

flips_same : (b : Bool) → flips b b ≡ false
flips_same true = refl
flips_same false = refl

-- the connective of the plain key gives the plain values
plain_values : (k : Key) (x y : Bool) → connective (plain_key k).connective x y ≡ plain_value k x y
plain_values k x y = bits_table (plain_value k false true) (plain_value k true false) (plain_value k true true) x y ∙ go x y
  where
    first : false ≡ plain_value k false false
    first =
        sym (flips_same (plain_mark k))
        ∙ ap₂ (λ (a b : Bool). flips (plain_mark k) (connective k.connective a b)) (sym (flips_false k.left.negated)) (sym (flips_false k.right.negated))

    go : (a b : Bool) → table (plain_value k false true) (plain_value k true false) (plain_value k true true) a b ≡ plain_value k a b
    go false false = first
    go false true = refl
    go true false = refl
    go true true = refl

module _ (D : Meaning) (ds : List Diamond) (w : HeldWell D ds) (k : Key) (n : ℕ) (a : KeyOfArity D ds k n) where
  pub plain_fit : KeyOfArity D ds (plain_key k) n
  plain_fit = record {
    few = bits_few (plain_value k false true) (plain_value k true false) (plain_value k true true);
    left = unmarked_fit D w.lawful ds w.normal.0 k.left n a.left;
    right = unmarked_fit D w.lawful ds w.normal.0 k.right n a.right;
  }

  pub plain_means : joint_of ds k ≡ sign (plain_mark k) (joint_of ds (plain_key k))
  plain_means =
      let s = normal_of D ds w.normal in
      let f = rule_in ds (unmarked k.left) in
      let g = rule_in ds (unmarked k.right) in
      let i = arity_record (store_of ds) (unmarked k.left) ∙ (unmarked_fit D w.lawful ds w.normal.0 k.left n a.left).marks in
      let j = arity_record (store_of ds) (unmarked k.right) ∙ (unmarked_fit D w.lawful ds w.normal.0 k.right n a.right).marks in
      signed (connective k.connective) (connective (plain_key k).connective) k.left.negated k.right.negated (plain_mark k) values f g
      (balanced_rule D (store_of ds) s (edge_of (unmarked k.left))) (balanced_rule D (store_of ds) s (edge_of (unmarked k.right))) (i ∙ sym j)
    where
      values : (x y : Bool) → connective k.connective (flips k.left.negated x) (flips k.right.negated y) ≡ flips (plain_mark k) (connective (plain_key k).connective x y)
      values x y =
          sym (flips_back (plain_mark k) (connective k.connective (flips k.left.negated x) (flips k.right.negated y)))
          ∙ ap (flips (plain_mark k)) (sym (plain_values k x y))

-- an answer with the other mark where b holds
abbrev pub turned_answer : Bool → Result Edge Refusal → Result Edge Refusal
turned_answer b (Ok e) = Ok (turned b e)
turned_answer b (Err x) = Err x

-- joined for the plain key is joined for the key
pub joined_turned : (D : Meaning) (ds : List Diamond) → HeldWell D ds → (m : Bool) → (m ≡ true → D.negates ≡ true) → (f : Rule) (r : Result Edge Refusal) (es : List Diamond) → Joined D ds f r es →
    Joined D ds (sign m f) (turned_answer m r) es
joined_turned D ds w true h f (Ok e) es j = joined_negated D w.lawful (h refl) ds f (Ok e) es j
joined_turned D ds w true h f (Err x) es j = joined_negated D w.lawful (h refl) ds f (Err x) es j
joined_turned D ds w false h f (Ok e) es j = j
joined_turned D ds w false h f (Err x) es j = j

-- A combination of an engine's edges, by the plain combinations of its halves --

module _ (s : State) {k : Key} {n : ℕ} (a : KeyOfArity s.profile.meaning s.diamonds k n) {low high : Plain} (h : Halving s.profile.meaning s.diamonds k n low high) where
  abbrev D : Meaning
  D = s.profile.meaning

  abbrev ds : List Diamond
  ds = s.diamonds

  abbrev f : Rule
  f = plain_rule ds low

  abbrev g : Rule
  g = plain_rule ds high

  balanced : Balanced (f ⋆ g)
  balanced = subst Balanced h.rule (whole_balanced D ds (state_well s) k n a)

  short : arity (f ⋆ g) ≤ 20
  short = subst (λ (x : Rule). arity x ≤ 20) h.rule (whole_short D ds (state_well s) k n a)

  whole : (r : Result Edge Refusal) (es : List Diamond) → Joined D ds (f ⋆ g) r es → Joined D ds (joint_of ds k) r es
  whole r es = subst (λ (x : Rule). Joined D ds x r es) (sym h.rule)

  low_joined : (r : Result Edge Refusal) (es : List Diamond) → Joined D ds (joint_of ds low.key) r es → Joined D ds f (turned_answer low.negated r) es
  low_joined r es = joined_turned D ds (state_well s) low.negated h.low_mark (joint_of ds low.key) r es

  -- the low half was refused
  pub low_refused : (x : Refusal) (es : List Diamond) → Joined D ds (joint_of ds low.key) (Err x) es → Joined D ds (joint_of ds k) (Err x) es
  low_refused x es j = whole (Err x) es (break_low D ds (state_well s) f g balanced short x es (low_joined (Err x) es j))

  -- the low half was answered, and the state is t
  module _ (t : State) (same : t.profile ≡ s.profile) {e : Edge} (j : Joined D ds (joint_of ds low.key) (Ok e) t.diamonds) where
    abbrev es : List Diamond
    es = t.diamonds

    abbrev low_edge : Edge
    low_edge = turned low.negated e

    low_there : Joined D ds f (Ok low_edge) es
    low_there = low_joined (Ok e) es j

    well : HeldWell D es
    well = low_well D ds (state_well s) f g balanced short low_edge es low_there

    lasting : KeyOfArity D es high.key (n - 1) × (joint_of es high.key ≡ joint_of ds high.key)
    lasting = key_lasts D ds high.key (n - 1) h.high_key es well (low_grown D ds (state_well s) f g balanced short low_edge es low_there)

    pub high_key : KeyOfArity t.profile.meaning es high.key (n - 1)
    high_key = subst (λ (p : Profile). KeyOfArity p.meaning es high.key (n - 1)) (sym same) lasting.0

    high_joined : (r : Result Edge Refusal) (xs : List Diamond) → Joined t.profile.meaning es (joint_of es high.key) r xs → Joined D es g (turned_answer high.negated r) xs
    high_joined r xs m =
        subst (λ (x : Rule). Joined D es x (turned_answer high.negated r) xs) (ap (sign high.negated) lasting.1)
        (joined_turned D es well high.negated h.high_mark (joint_of es high.key) r xs (subst (λ (p : Profile). Joined p.meaning es (joint_of es high.key) r xs) same m))

    -- the high half was refused
    pub high_refused : (x : Refusal) (xs : List Diamond) → Joined t.profile.meaning es (joint_of es high.key) (Err x) xs → Joined D ds (joint_of ds k) (Err x) xs
    high_refused x xs m = whole (Err x) xs (break_high D ds (state_well s) f g balanced short low_edge es low_there x xs (high_joined (Err x) xs m))

    -- the high half was answered, and the state is u
    module _ (u : State) (same' : u.profile ≡ t.profile) {d : Edge} (m : Joined t.profile.meaning es (joint_of es high.key) (Ok d) u.diamonds) where
      abbrev xs : List Diamond
      xs = u.diamonds

      abbrev high_edge : Edge
      high_edge = turned high.negated d

      high_there : Joined D es g (Ok high_edge) xs
      high_there = high_joined (Ok d) xs m

      pub fits : HalvesFit u.profile.meaning xs low_edge high_edge
      fits =
          subst (λ (p : Profile). HalvesFit p.meaning xs low_edge high_edge) (sym (same' ∙ same))
          (halves_fit D ds (state_well s) f g balanced short low_edge es low_there high_edge xs high_there)

      pub made : (r : Result Edge Refusal) (ys : List Diamond) → ◌≡◌ {A = Outcome} (r, ys) (kept xs (make u.profile.meaning (store_of xs) (edge_of low_edge) (edge_of high_edge))) →
          Joined D ds (joint_of ds k) r ys
      made r ys o =
          whole r ys
          (joined_both D ds (state_well s) f g balanced short low_edge es low_there high_edge xs high_there r ys
          (o ∙ ap (λ (p : Profile). kept xs (make p.meaning (store_of xs) (edge_of low_edge) (edge_of high_edge))) (same' ∙ same)))

      -- the edge that was made may be remembered
      pub made_right : (v : State) → v.profile ≡ u.profile → (c : Edge) →
          ◌≡◌ {A = Outcome} (Ok c, v.diamonds) (kept xs (make u.profile.meaning (store_of xs) (edge_of low_edge) (edge_of high_edge))) → right_for v.profile.meaning v.diamonds k c ≡ true
      made_right v is c o =
          let all : v.profile ≡ s.profile = is ∙ same' ∙ same in
          right_met v.profile.meaning v.diamonds (state_well v) k c
          (subst (λ (p : Profile). ◌≡◌ {A = Outcome} (combine_step p.meaning v.diamonds k.connective k.left k.right) (Ok c, v.diamonds)) (sym all)
          (joined_stands D ds (state_well s) k n a c v.diamonds (made (Ok c) v.diamonds o)))
