-- Where making chooses a letter, the halves are those that the letter stands for; so the edge is accepted, and means what the halves mean.
use Rattle.std.proofs.Common.{◌≡◌, ℕ, suc, Bool, true, false, cond, not, ◌&&◌, eqb, ◌⊎◌, List, [], ◌∷◌, length, replicate, Some, None, Option, sym, refl, ap, ◌∙◌, subst, ap₂, inl, inr}
use Rattle.std.proofs.lemmas.Bool.{and_parts}
use Rattle.diagram.specs.Rules.{constant, ◌⋆◌, arity}
use Rattle.diagram.specs.declared.letters.Letter.{Letter}
use Rattle.diagram.specs.declared.letters.Letter.TheVariants.{U, X, C00, C01, C10, C11}
use Rattle.diagram.specs.Letters.{partner, letter_code}
use Rattle.diagram.specs.Edges.{Target, terminal, diamond, Edge, edge, Store, flip, put, spell, foot, diamond_rule, rule_of, same}
use Rattle.diagram.specs.Dialects.{look, Lawful, all_u, flips, constant_at, constant_value, look_at, low_constant, high_constant, opposed, is, fits, has_letter, answer_at}
use Rattle.diagram.specs.declared.meanings.Meaning.{Meaning}
use Rattle.diagram.specs.Making.{flat, source, written, choose, low_of, high_of, upright}
use Rattle.diagram.specs.Acceptance.{Accepted}
use Rattle.diagram.proofs.Laws.{arity_negate, arity_on, arity_sign, flip_flip, sense_put, letter_eq, same_eq}
use Rattle.diagram.proofs.Signs.{flip?, choose_flip}
use Rattle.diagram.proofs.Split.{flat_negating, flat_plain, flat_flip, letter_rule}

-- An edge that is seen to be constant is the constant edge --

arity_spell : (w : List Letter) (b : Bool) → arity (spell w (constant b)) ≡ length w
arity_spell [] b = refl
arity_spell (c ∷ w) b = arity_on c (spell w (constant b)) ∙ ap suc (arity_spell w b)

all_u_word : (w : List Letter) → all_u w ≡ true → w ≡ replicate (length w) U
all_u_word [] e = refl
all_u_word (c ∷ w) e =
    ap₂ ◌∷◌ (letter_eq c U (and_parts (eqb (letter_code c) 0) (all_u w) e).0) (all_u_word w (and_parts (eqb (letter_code c) 0) (all_u w) e).1)

pub not_other : (b : Bool) → is b None ≡ true → ⊥
not_other true e = cc
not_other false e = cc

is_some : (b c : Bool) → is b (Some c) ≡ true → c ≡ b
is_some true true e = refl
is_some true false e = e
is_some false true e = cc
is_some false false e = refl

pub is_itself : (b : Bool) → is b (Some b) ≡ true
is_itself true = refl
is_itself false = refl

flips_false : (n : Bool) → flips n false ≡ n
flips_false true = refl
flips_false false = refl

abbrev ConstantFact : Bool → Bool → Target → Bool → Type 0
ConstantFact a n t b = (a ≡ true) × ((c : Bool) × ((t ≡ terminal c) × (flips n c ≡ b)))

constant_fact : (a n : Bool) (t : Target) (b : Bool) → is b (constant_at a n t) ≡ true → ConstantFact a n t b
constant_fact true n (terminal c) b e = (refl, (c, (refl, is_some b (flips n c) e)))
constant_fact true n (diamond k) b e = absurd (not_other b e)
constant_fact false n t b e = absurd (not_other b e)

pub flat_constant : (D : Meaning) (s : Store) (e : Edge) (b : Bool) → Accepted D s e → is b (constant_value e) ≡ true → e ≡ flat D (arity (rule_of s e)) b
flat_constant D s e b a q = go D.negates refl fact.1.0 refl
  where
    fact : ConstantFact (all_u e.word) e.negated e.target b
    fact = constant_fact (all_u e.word) e.negated e.target b q

    long : arity (rule_of s e) ≡ length e.word
    long =
        arity_sign e.negated (spell e.word (foot (diamond_rule s) e.target))
        ∙ ap (λ (t : Target). arity (spell e.word (foot (diamond_rule s) t))) fact.1.1.0
        ∙ arity_spell e.word fact.1.0

    wd : e.word ≡ replicate (arity (rule_of s e)) U
    wd = all_u_word e.word fact.0 ∙ ap (λ (n : ℕ). replicate n U) (sym long)

    go : (m : Bool) → D.negates ≡ m → (c : Bool) → fact.1.0 ≡ c → e ≡ flat D (arity (rule_of s e)) b
    go true neg true h = absurd (a.ended neg (fact.1.1.0 ∙ ap terminal h))
    go true neg false h =
        let tg : e.target ≡ terminal false = fact.1.1.0 ∙ ap terminal h in
        let sg : e.negated ≡ b = sym (flips_false e.negated) ∙ ap (flips e.negated) (sym h) ∙ fact.1.1.1 in
        let p : e ≡ edge b (replicate (arity (rule_of s e)) U) (terminal false) = λ i. edge (sg i) (wd i) (tg i) in
        p ∙ sym (flat_negating D (arity (rule_of s e)) b neg)
    go false pos c h =
        let sg : e.negated ≡ false = a.signed pos in
        let cb : fact.1.0 ≡ b = ap (λ (n : Bool). flips n fact.1.0) (sym sg) ∙ fact.1.1.1 in
        let tg : e.target ≡ terminal b = fact.1.1.0 ∙ ap terminal cb in
        let p : e ≡ edge false (replicate (arity (rule_of s e)) U) (terminal b) = λ i. edge (sg i) (wd i) (tg i) in
        p ∙ sym (flat_plain D (arity (rule_of s e)) b pos)

-- What a look says of the halves --

low_is : (b : Bool) (j k : Option Bool) (o : Bool) → is b (low_constant (look_at j k o)) ≡ true → is b j ≡ true
low_is b (Some false) (Some false) o e = absurd (not_other b e)
low_is b (Some false) (Some true) o e = e
low_is b (Some false) None o e = e
low_is b (Some true) (Some false) o e = e
low_is b (Some true) (Some true) o e = absurd (not_other b e)
low_is b (Some true) None o e = e
low_is b None (Some false) o e = e
low_is b None (Some true) o e = e
low_is b None None true e = e
low_is b None None false e = e

high_is : (b : Bool) (j k : Option Bool) (o : Bool) → is b (high_constant (look_at j k o)) ≡ true → is b k ≡ true
high_is b (Some false) (Some false) o e = absurd (not_other b e)
high_is b (Some false) (Some true) o e = e
high_is b (Some false) None o e = e
high_is b (Some true) (Some false) o e = e
high_is b (Some true) (Some true) o e = absurd (not_other b e)
high_is b (Some true) None o e = e
high_is b None (Some false) o e = e
high_is b None (Some true) o e = e
high_is b None None true e = e
high_is b None None false e = e

abbrev Opposed : Option Bool → Option Bool → Bool → Type 0
Opposed j k o = (o ≡ true) ⊎ ((b : Bool) × ((is b j ≡ true) × (is (not b) k ≡ true)))

opposed_is : (j k : Option Bool) (o : Bool) → opposed (look_at j k o) ≡ true → Opposed j k o
opposed_is (Some false) (Some false) o e = inl (cc)
opposed_is (Some false) (Some true) o e = inr (false, (refl, refl))
opposed_is (Some false) None o e = inl (cc)
opposed_is (Some true) (Some false) o e = inr (true, (refl, refl))
opposed_is (Some true) (Some true) o e = inl (cc)
opposed_is (Some true) None o e = inl (cc)
opposed_is None (Some false) o e = inl (cc)
opposed_is None (Some true) o e = inl (cc)
opposed_is None None true e = inl refl
opposed_is None None false e = inl (cc)

-- The letter that is chosen, and the halves that it stands for --

pub record Lettered (D : Meaning) (s : Store) (l h e : Edge) : Type 0 where
  pub c : Letter
  pub has : has_letter D c ≡ true
  pub is_put : e ≡ put c (source c l h)
  pub low_is : l ≡ low_of c (flat D (arity (rule_of s (source c l h)))) (source c l h)
  pub high_is : h ≡ high_of c (flat D (arity (rule_of s (source c l h)))) (source c l h)

module _ (D : Meaning) (law : Lawful D) (s : Store) (l h : Edge) (la : Accepted D s l) (ha : Accepted D s h) (level : arity (rule_of s l) ≡ arity (rule_of s h)) where
  low_flat : (b : Bool) → is b (low_constant (look D l h)) ≡ true → l ≡ flat D (arity (rule_of s h)) b
  low_flat b e =
      flat_constant D s l b la (low_is b (constant_value l) (constant_value h) (D.negates && same l (flip h)) e) ∙ ap (λ (n : ℕ). flat D n b) level

  high_flat : (b : Bool) → is b (high_constant (look D l h)) ≡ true → h ≡ flat D (arity (rule_of s l)) b
  high_flat b e =
      flat_constant D s h b ha (high_is b (constant_value l) (constant_value h) (D.negates && same l (flip h)) e) ∙ ap (λ (n : ℕ). flat D n b) (sym level)

  opposites : D.negates ≡ true → Opposed (constant_value l) (constant_value h) (D.negates && same l (flip h)) → h ≡ flip l
  opposites neg (inl e) = sym (flip_flip h) ∙ ap flip (sym (same_eq l (flip h) (and_parts D.negates (same l (flip h)) e).1))
  opposites neg (inr x) =
      flat_constant D s h (not x.0) ha x.1.1
      ∙ ap (λ (n : ℕ). flat D n (not x.0)) (sym level)
      ∙ sym (flat_flip D (arity (rule_of s l)) x.0 neg)
      ∙ ap flip (sym (flat_constant D s l x.0 la x.1.0))

  fits_halves : (c : Letter) → has_letter D c ≡ true → fits D c (look D l h) ≡ true → Lettered D s l h (put c (source c l h))
  fits_halves U o e = absurd cc
  fits_halves X o e =
      let q = (and_parts D.negates (opposed (look D l h)) e).1 in
      record { c = X; has = o; is_put = refl; low_is = refl; high_is = opposites (law.has_x o) (opposed_is (constant_value l) (constant_value h) (D.negates && same l (flip h)) q) }
  fits_halves C00 o e = record { c = C00; has = o; is_put = refl; low_is = low_flat false e; high_is = refl }
  fits_halves C01 o e = record { c = C01; has = o; is_put = refl; low_is = low_flat true e; high_is = refl }
  fits_halves C10 o e = record { c = C10; has = o; is_put = refl; low_is = refl; high_is = high_flat false e }
  fits_halves C11 o e = record { c = C11; has = o; is_put = refl; low_is = refl; high_is = high_flat true e }

  lettered_at : (e : Edge) (b : Bool) → same l h ≡ b → (o : Option Letter) → answer_at D (look D l h) ≡ o → cond b (Some (put U l)) (written o l h) ≡ Some e → Lettered D s l h e
  lettered_at e true sm o ans p =
      record { c = U; has = law.has_u; is_put = cc; low_is = refl; high_is = sym (same_eq l h sm) }
  lettered_at e false sm None ans p = absurd cc
  lettered_at e false sm (Some c) ans p =
      let w = law.own (look D l h) c ans in
      let q : put c (source c l h) ≡ e = cc in
      subst (λ (d : Edge). Lettered D s l h d) q (fits_halves c w.0 w.1)

  pub lettered : (e : Edge) → choose D l h ≡ Some e → Lettered D s l h e
  lettered e p = lettered_at e (same l h) refl (answer_at D (look D l h)) refl p

-- What a chosen edge means, and that it is accepted --

pub lettered_rule : (D : Meaning) (s : Store) (l h e : Edge) → Lettered D s l h e → rule_of s e ≡ rule_of s l ⋆ rule_of s h
lettered_rule D s l h e x =
    ap (rule_of s) x.is_put
    ∙ sense_put (diamond_rule s) x.c (source x.c l h)
    ∙ letter_rule D (diamond_rule s) x.c (source x.c l h)
    ∙ ap₂ (λ (a b : Edge). rule_of s a ⋆ rule_of s b) (sym x.low_is) (sym x.high_is)

low_of_flip : (D : Meaning) → D.negates ≡ true → (n : ℕ) (c : Letter) (e : Edge) → low_of (partner c) (flat D n) (flip e) ≡ flip (low_of c (flat D n) e)
low_of_flip D neg n U e = refl
low_of_flip D neg n X e = refl
low_of_flip D neg n C00 e = sym (flat_flip D n false neg)
low_of_flip D neg n C01 e = sym (flat_flip D n true neg)
low_of_flip D neg n C10 e = refl
low_of_flip D neg n C11 e = refl

high_of_flip : (D : Meaning) → D.negates ≡ true → (n : ℕ) (c : Letter) (e : Edge) → high_of (partner c) (flat D n) (flip e) ≡ flip (high_of c (flat D n) e)
high_of_flip D neg n U e = refl
high_of_flip D neg n X e = refl
high_of_flip D neg n C00 e = refl
high_of_flip D neg n C01 e = refl
high_of_flip D neg n C10 e = sym (flat_flip D n false neg)
high_of_flip D neg n C11 e = sym (flat_flip D n true neg)

-- the letter c on an accepted edge with the sign m, where making chooses it
put_accepted_at : (D : Meaning) → Lawful D → (s : Store) (c : Letter) (m : Bool) (w : List Letter) (t : Target) → Accepted D s (edge m w t) →
    choose D (low_of c (flat D (arity (rule_of s (edge m w t)))) (edge m w t)) (high_of c (flat D (arity (rule_of s (edge m w t)))) (edge m w t)) ≡ Some (put c (edge m w t)) →
    Accepted D s (put c (edge m w t))
put_accepted_at D law s c false w t a p =
    record { within = a.within; signed = a.signed; ended = a.ended; spelled = (a.spelled, p) }
put_accepted_at D law s c true w t a p = go D.negates refl
  where
    go : (b : Bool) → D.negates ≡ b → Accepted D s (put c (edge true w t))
    go false pos = let q = a.signed pos in absurd cc
    go true neg =
        let f = rule_of s (upright w t) in
        let n = arity f in
        let k = arity_negate f in
        let p' : choose D (low_of c (flat D n) (edge true w t)) (high_of c (flat D n) (edge true w t)) ≡ Some (put c (edge true w t)) =
        subst (λ (i : ℕ). choose D (low_of c (flat D i) (edge true w t)) (high_of c (flat D i) (edge true w t)) ≡ Some (put c (edge true w t))) k p in
        let q =
        ap₂ (choose D) (low_of_flip D neg n c (edge true w t)) (high_of_flip D neg n c (edge true w t))
        ∙ choose_flip D law neg (low_of c (flat D n) (edge true w t)) (high_of c (flat D n) (edge true w t))
        ∙ ap flip? p' in
        record { within = a.within; signed = a.signed; ended = a.ended; spelled = (a.spelled, q) }

pub put_accepted : (D : Meaning) → Lawful D → (s : Store) (c : Letter) (e : Edge) → Accepted D s e →
    choose D (low_of c (flat D (arity (rule_of s e))) e) (high_of c (flat D (arity (rule_of s e))) e) ≡ Some (put c e) → Accepted D s (put c e)
put_accepted D law s c e a p = put_accepted_at D law s c e.negated e.word e.target a p

source_accepted : (D : Meaning) (s : Store) (c : Letter) (l h : Edge) → Accepted D s l → Accepted D s h → Accepted D s (source c l h)
source_accepted D s U l h la ha = la
source_accepted D s X l h la ha = la
source_accepted D s C00 l h la ha = ha
source_accepted D s C01 l h la ha = ha
source_accepted D s C10 l h la ha = la
source_accepted D s C11 l h la ha = la

pub lettered_accepted : (D : Meaning) → Lawful D → (s : Store) (l h e : Edge) → Accepted D s l → Accepted D s h → choose D l h ≡ Some e → Lettered D s l h e → Accepted D s e
lettered_accepted D law s l h e la ha p x =
    let q = ap₂ (choose D) (sym x.low_is) (sym x.high_is) ∙ p ∙ ap Some x.is_put in
    subst (λ (d : Edge). Accepted D s d) (sym x.is_put) (put_accepted D law s x.c (source x.c l h) (source_accepted D s x.c l h la ha) q)
