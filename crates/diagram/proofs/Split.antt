-- An accepted edge is a terminal edge, or it has two halves: what it means is made of what they mean, they are accepted, and making gives the edge back.
use Rattle.std.proofs.Common.{◌≡◌, ℕ, zero, suc, ◌<◌, Bool, true, false, cond, not, eqb, ◌⊎◌, List, [], ◌∷◌, length, replicate, Some, None, Option, sym, refl, ap, ◌∙◌, subst, ap₂, inl, inr, not-suc-le-zero, arith}
use Rattle.std.proofs.lemmas.Bool.{eqb-false, eqb-true, ne_eqb}
use Rattle.diagram.specs.Rules.{Rule, constant, ◌⋆◌, arity, negate}
use Rattle.diagram.specs.declared.letters.Letter.{Letter}
use Rattle.diagram.specs.declared.letters.Letter.TheVariants.{U, X, C00, C01, C10, C11}
use Rattle.diagram.specs.Letters.{on}
use Rattle.diagram.specs.Edges.{Target, terminal, diamond, Edge, edge, Diamond, Store, flip, turned, put, sign, spell, foot, sense, diamond_rule, rule_of, same, same_diamond, diamond_at}
use Rattle.diagram.specs.Dialects.{look, Lawful, has_letter, answer_at}
use Rattle.diagram.specs.declared.meanings.Meaning.{Meaning}
use Rattle.diagram.specs.Making.{flat, source, written, choose, find, diamond_edge, flipped, low_of, high_of, upright, low_upright, high_upright}
use Rattle.diagram.specs.Acceptance.{Within, Spelled, Accepted, Addable, Normal}
use Rattle.diagram.proofs.Notions.{Halves}
use Rattle.diagram.proofs.Laws.{sense_flip, sense_flat, same_refl, same_diamond_refl, same_diamond_eq}
use Rattle.diagram.proofs.Signs.{make_flip}

-- More diamonds --

foot_more : (n : Diamond) (s : Store) (t : Target) → Within s t → foot (diamond_rule (n ∷ s)) t ≡ foot (diamond_rule s) t
foot_more n s (terminal b) w = refl
foot_more n s (diamond k) w = rw (ne_eqb k (length s) (omega (arith, w)))

pub rule_more : (n : Diamond) (s : Store) (e : Edge) → Within s e.target → rule_of (n ∷ s) e ≡ rule_of s e
rule_more n s e w = ap (λ f. sign e.negated (spell e.word f)) (foot_more n s e.target w)

within_more : (n : Diamond) (s : Store) (t : Target) → Within s t → Within (n ∷ s) t
within_more n s (terminal b) w = tt
within_more n s (diamond k) w = omega arith

abbrev Chosen : Meaning → Rule → Letter → List Letter → Target → Type 0
Chosen D f c w t = choose D (low_of c (flat D (arity f)) (upright w t)) (high_of c (flat D (arity f)) (upright w t)) ≡ Some (upright (c ∷ w) t)

spelled_more : (D : Meaning) (n : Diamond) (s : Store) (t : Target) (w : List Letter) → Within s t → Spelled D s t w → Spelled D (n ∷ s) t w
spelled_more D n s t [] i sp = tt
spelled_more D n s t (c ∷ w) i sp =
    (spelled_more D n s t w i sp.0, subst (λ (f : Rule). Chosen D f c w t) (sym (rule_more n s (upright w t) i)) sp.1)

pub accepted_more : (D : Meaning) (n : Diamond) (s : Store) (e : Edge) → Accepted D s e → Accepted D (n ∷ s) e
accepted_more D n s e a =
    record {
      within = within_more n s e.target a.within;
      signed = a.signed;
      ended = a.ended;
      spelled = spelled_more D n s e.target e.word a.within a.spelled;
    }

-- Constant edges --

pub flat_negating : (D : Meaning) (n : ℕ) (b : Bool) → D.negates ≡ true → flat D n b ≡ edge b (replicate n U) (terminal false)
flat_negating D n b e = rw e

pub flat_plain : (D : Meaning) (n : ℕ) (b : Bool) → D.negates ≡ false → flat D n b ≡ edge false (replicate n U) (terminal b)
flat_plain D n b e = rw e

pub flat_flip : (D : Meaning) (n : ℕ) (b : Bool) → D.negates ≡ true → flip (flat D n b) ≡ flat D n (not b)
flat_flip D n b e = ap flip (flat_negating D n b e) ∙ sym (flat_negating D n (not b) e)

pub choose_same : (D : Meaning) (e : Edge) → choose D e e ≡ Some (put U e)
choose_same D e = rw (same_refl e)

us_spelled : (D : Meaning) (s : Store) (t : Target) (n : ℕ) → Spelled D s t (replicate n U)
us_spelled D s t zero = tt
us_spelled D s t (suc n) = (us_spelled D s t n, choose_same D (upright (replicate n U) t))

flat_accepted_at : (D : Meaning) (s : Store) (n : ℕ) (b m : Bool) → D.negates ≡ m → Accepted D s (cond m (edge b (replicate n U) (terminal false)) (edge false (replicate n U) (terminal b)))
flat_accepted_at D s n b true e =
    record {
      within = tt;
      signed = λ q. cc;
      ended = λ q r. cc;
      spelled = us_spelled D s (terminal false) n;
    }
flat_accepted_at D s n b false e =
    record {
      within = tt;
      signed = λ q. refl;
      ended = λ q r. cc;
      spelled = us_spelled D s (terminal b) n;
    }

pub flat_accepted : (D : Meaning) (s : Store) (n : ℕ) (b : Bool) → Accepted D s (flat D n b)
flat_accepted D s n b = flat_accepted_at D s n b D.negates refl

pub accepted_flip : (D : Meaning) (s : Store) (e : Edge) → D.negates ≡ true → Accepted D s e → Accepted D s (flip e)
accepted_flip D s e neg a = record { within = a.within; signed = λ q. cc; ended = a.ended; spelled = a.spelled }

-- The diamonds of a normal store --

pub record Found (D : Meaning) (s : Store) (k : ℕ) (n : Diamond) : Type 0 where
  pub rule : diamond_rule s k ≡ rule_of s n.low ⋆ rule_of s n.high
  pub low_accepted : Accepted D s n.low
  pub high_accepted : Accepted D s n.high
  pub level : arity (rule_of s n.low) ≡ arity (rule_of s n.high)
  pub unlettered : choose D n.low n.high ≡ None
  pub upright_low : n.low.negated ≡ false
  pub found : find s n ≡ Some k

found_here : (D : Meaning) (n : Diamond) (s : Store) (k : ℕ) → Addable D s n → eqb k (length s) ≡ true → Found D (n ∷ s) k n
found_here D n s k a e =
    let p = rule_more n s n.low a.low_accepted.within in
    let q = rule_more n s n.high a.high_accepted.within in
    record {
      rule = rw e (ap₂ ◌⋆◌ (sym p) (sym q));
      low_accepted = accepted_more D n s n.low a.low_accepted;
      high_accepted = accepted_more D n s n.high a.high_accepted;
      level = ap arity p ∙ a.level ∙ sym (ap arity q);
      unlettered = a.unlettered;
      upright_low = a.upright_low;
      found = rw (same_diamond_refl n) (ap Some (sym (eqb-true k (length s) e)));
    }

differ : (D : Meaning) (n m : Diamond) (s : Store) (k : ℕ) → find s n ≡ None → find s m ≡ Some k → same_diamond n m ≡ false
differ D n m s k p q = go (same_diamond n m) refl
  where
    go : (b : Bool) → same_diamond n m ≡ b → same_diamond n m ≡ false
    go true e = let r : n ≡ m = same_diamond_eq n m e in absurd cc
    go false e = e

found_before : (D : Meaning) (n m : Diamond) (s : Store) (k : ℕ) → Addable D s n → eqb k (length s) ≡ false → Found D s k m → Found D (n ∷ s) k m
found_before D n m s k a e f =
    let p = rule_more n s m.low f.low_accepted.within in
    let q = rule_more n s m.high f.high_accepted.within in
    record {
      rule = rw e (f.rule ∙ ap₂ ◌⋆◌ (sym p) (sym q));
      low_accepted = accepted_more D n s m.low f.low_accepted;
      high_accepted = accepted_more D n s m.high f.high_accepted;
      level = ap arity p ∙ f.level ∙ sym (ap arity q);
      unlettered = f.unlettered;
      upright_low = f.upright_low;
      found = rw (differ D n m s k a.new f.found) f.found;
    }

pub found : (D : Meaning) (s : Store) (k : ℕ) → Normal D s → k < length s → Found D s k (diamond_at s k)
found D [] k ns h = absurd (not-suc-le-zero h)
found D (n ∷ s) k ns h = go (eqb k (length s)) refl (λ i. found D s k ns.0 i)
  where
    go : (b : Bool) → eqb k (length s) ≡ b → (k < length s → Found D s k (diamond_at s k)) → Found D (n ∷ s) k (cond b n (diamond_at s k))
    go true e ih = found_here D n s k ns.1 e
    go false e ih = let d = eqb-false k (length s) e in found_before D n (diamond_at s k) s k ns.1 e (ih (omega arith))

-- Splitting --

pub record Leaf (D : Meaning) (s : Store) (e : Edge) : Type 0 where
  pub bit : Bool
  pub is : e ≡ flat D 0 bit
  pub rule : rule_of s e ≡ constant bit

-- a letter of an accepted word is a letter of the dialect

put_letter : (c d : Letter) (e : Edge) (w : List Letter) (t : Target) → put c e ≡ upright (d ∷ w) t → c ≡ d
put_letter c d e w t p =
    let n : e.negated ≡ false = ap (λ (x : Edge). x.negated) p in
    let q : turned e.negated c ∷ e.word ≡ d ∷ w = ap (λ (x : Edge). x.word) p in
    cc

chosen_has_at : (D : Meaning) → Lawful D → (l h : Edge) (o : Option Letter) → answer_at D (look D l h) ≡ o → (b : Bool) (c : Letter) (w : List Letter) (t : Target) →
    cond b (Some (put U l)) (written o l h) ≡ Some (upright (c ∷ w) t) → has_letter D c ≡ true
chosen_has_at D law l h o ho true c w t e =
    let p : put U l ≡ upright (c ∷ w) t = cc in
    subst (λ d. has_letter D d ≡ true) (put_letter U c l w t p) law.has_u
chosen_has_at D law l h None ho false c w t e = cc
chosen_has_at D law l h (Some d) ho false c w t e =
    let p : put d (source d l h) ≡ upright (c ∷ w) t = cc in
    subst (λ d. has_letter D d ≡ true) (put_letter d c (source d l h) w t p) (law.own (look D l h) d ho).0

pub chosen_has : (D : Meaning) → Lawful D → (l h : Edge) (c : Letter) (w : List Letter) (t : Target) → choose D l h ≡ Some (upright (c ∷ w) t) → has_letter D c ≡ true
chosen_has D law l h c w t e = chosen_has_at D law l h (answer_at D (look D l h)) refl (same l h) c w t e

pub letter_rule : (D : Meaning) (r : ℕ → Rule) (c : Letter) (e : Edge) →
    on c (sense r e) ≡ sense r (low_of c (flat D (arity (sense r e))) e) ⋆ sense r (high_of c (flat D (arity (sense r e))) e)
letter_rule D r U e = refl
letter_rule D r X e = ap (λ g. sense r e ⋆ g) (sym (sense_flip r e))
letter_rule D r C00 e = ap (λ g. g ⋆ sense r e) (sym (sense_flat r D (arity (sense r e)) false))
letter_rule D r C01 e = ap (λ g. g ⋆ sense r e) (sym (sense_flat r D (arity (sense r e)) true))
letter_rule D r C10 e = ap (λ g. sense r e ⋆ g) (sym (sense_flat r D (arity (sense r e)) false))
letter_rule D r C11 e = ap (λ g. sense r e ⋆ g) (sym (sense_flat r D (arity (sense r e)) true))

low_of_accepted : (D : Meaning) (s : Store) (n : ℕ) (c : Letter) (e : Edge) → Accepted D s e → Accepted D s (low_of c (flat D n) e)
low_of_accepted D s n U e a = a
low_of_accepted D s n X e a = a
low_of_accepted D s n C00 e a = flat_accepted D s n false
low_of_accepted D s n C01 e a = flat_accepted D s n true
low_of_accepted D s n C10 e a = a
low_of_accepted D s n C11 e a = a

high_of_accepted : (D : Meaning) → Lawful D → (s : Store) (n : ℕ) (c : Letter) (e : Edge) → has_letter D c ≡ true → Accepted D s e → Accepted D s (high_of c (flat D n) e)
high_of_accepted D law s n U e o a = a
high_of_accepted D law s n X e o a = accepted_flip D s e (law.has_x o) a
high_of_accepted D law s n C00 e o a = a
high_of_accepted D law s n C01 e o a = a
high_of_accepted D law s n C10 e o a = flat_accepted D s n false
high_of_accepted D law s n C11 e o a = flat_accepted D s n true

pub below : (D : Meaning) (s : Store) (c : Letter) (w : List Letter) (t : Target) → Accepted D s (upright (c ∷ w) t) → Accepted D s (upright w t)
below D s c w t a = record { within = a.within; signed = a.signed; ended = a.ended; spelled = a.spelled.0 }

split_letter : (D : Meaning) → Lawful D → (s : Store) (c : Letter) (w : List Letter) (t : Target) → Accepted D s (upright (c ∷ w) t) → Halves D s (upright (c ∷ w) t)
split_letter D law s c w t a =
    let n = arity (rule_of s (upright w t)) in
    let b = below D s c w t a in
    record {
      rule = letter_rule D (diamond_rule s) c (upright w t);
      low_accepted = low_of_accepted D s n c (upright w t) b;
      high_accepted = high_of_accepted D law s n c (upright w t) (chosen_has D law (low_of c (flat D n) (upright w t)) (high_of c (flat D n) (upright w t)) c w t a.spelled.1) b;
      made = rw a.spelled.1;
    }

split_diamond : (D : Meaning) (s : Store) (k : ℕ) → Normal D s → Accepted D s (diamond_edge k) → Halves D s (diamond_edge k)
split_diamond D s k ns a =
    let f = found D s k ns a.within in
    record {
      rule = f.rule;
      low_accepted = f.low_accepted;
      high_accepted = f.high_accepted;
      made = rw (f.unlettered, f.upright_low, f.found);
    }

split_leaf : (D : Meaning) (s : Store) (b : Bool) → Accepted D s (upright [] (terminal b)) → Leaf D s (upright [] (terminal b))
split_leaf D s b a = record { bit = b; is = go D.negates refl b refl; rule = refl }
  where
    go : (m : Bool) → D.negates ≡ m → (c : Bool) → b ≡ c → upright [] (terminal b) ≡ flat D 0 b
    go true e true q = absurd (a.ended e (ap terminal q))
    go true e false q = rw (e, q)
    go false e c q = rw e

pub split_upright : (D : Meaning) → Lawful D → (s : Store) → Normal D s → (w : List Letter) (t : Target) → Accepted D s (upright w t) → Leaf D s (upright w t) ⊎ Halves D s (upright w t)
split_upright D law s ns [] (terminal b) a = inl (split_leaf D s b a)
split_upright D law s ns [] (diamond k) a = inr (split_diamond D s k ns a)
split_upright D law s ns (c ∷ w) t a = inr (split_letter D law s c w t a)

split_flip : (D : Meaning) → Lawful D → D.negates ≡ true → (s : Store) (w : List Letter) (t : Target) → Leaf D s (upright w t) ⊎ Halves D s (upright w t) → Leaf D s (edge true w t) ⊎ Halves D s (edge true w t)
split_flip D law neg s w t (inl x) =
    inl (record { bit = not x.bit; is = ap flip x.is ∙ flat_flip D 0 x.bit neg; rule = ap negate x.rule })
split_flip D law neg s w t (inr x) =
    let l = low_upright D s w t in
    let h = high_upright D s w t in
    inr (record {
      rule = ap negate x.rule ∙ ap₂ ◌⋆◌ (sym (sense_flip (diamond_rule s) l)) (sym (sense_flip (diamond_rule s) h));
      low_accepted = accepted_flip D s l neg x.low_accepted;
      high_accepted = accepted_flip D s h neg x.high_accepted;
      made = make_flip D law neg s l h ∙ ap flipped x.made;
    })

split_at : (D : Meaning) → Lawful D → (s : Store) → Normal D s → (n : Bool) (w : List Letter) (t : Target) → Accepted D s (edge n w t) → Leaf D s (edge n w t) ⊎ Halves D s (edge n w t)
split_at D law s ns false w t a = split_upright D law s ns w t a
split_at D law s ns true w t a = go D.negates refl
  where
    go : (m : Bool) → D.negates ≡ m → Leaf D s (edge true w t) ⊎ Halves D s (edge true w t)
    go true neg = split_flip D law neg s w t (split_upright D law s ns w t (accepted_flip D s (edge true w t) neg a))
    go false pos = let q = a.signed pos in absurd cc

pub split : (D : Meaning) → Lawful D → (s : Store) → Normal D s → (e : Edge) → Accepted D s e → Leaf D s e ⊎ Halves D s e
split D law s ns e a = split_at D law s ns e.negated e.word e.target a
