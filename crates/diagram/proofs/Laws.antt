-- The laws of rules, letters and signs, and of the tests.
use Rattle.std.proofs.Common.{◌≡◌, ℕ, zero, suc, Bool, true, false, cond, not, ◌&&◌, eqb, List, [], ◌∷◌, replicate, Some, None, Option, sym, refl, ap, ◌∙◌, ap₂}
use Rattle.std.proofs.Math.Bool.{not-not}
use Rattle.std.proofs.lemmas.Bool.{and_parts, eq-eqb, eqb-true}
use mathlib.Core.Bool.{beq}
use Rattle.diagram.specs.Rules.{Rule, constant, ◌⋆◌, arity, negate, full}
use Rattle.diagram.specs.declared.letters.Letter.{Letter}
use Rattle.diagram.specs.declared.letters.Letter.TheVariants.{U, X, C00, C01, C10, C11}
use Rattle.diagram.specs.Letters.{on, partner, letter_code, letter_of}
use Rattle.diagram.specs.Edges.{Target, terminal, diamond, Edge, edge, Diamond, pair, flip, turned, put, sign, spell, foot, sense, same_word, same_target, same, same_diamond}
use Rattle.diagram.specs.Dialects.{all_u, flips, constant_at, constant_value, look_at, look, turn}
use Rattle.diagram.specs.declared.meanings.Meaning.{Meaning}
use Rattle.diagram.specs.Making.{flat}

pub negate_negate : (f : Rule) → negate (negate f) ≡ f
negate_negate (constant b) = ap constant (not-not b)
negate_negate (f ⋆ g) = ap₂ ◌⋆◌ (negate_negate f) (negate_negate g)

pub arity_negate : (f : Rule) → arity (negate f) ≡ arity f
arity_negate (constant b) = refl
arity_negate (f ⋆ g) = ap suc (arity_negate f)

pub arity_full : (n : ℕ) (b : Bool) → arity (full n b) ≡ n
arity_full zero b = refl
arity_full (suc n) b = ap suc (arity_full n b)

pub negate_full : (n : ℕ) (b : Bool) → negate (full n b) ≡ full n (not b)
negate_full zero b = refl
negate_full (suc n) b = ap₂ ◌⋆◌ (negate_full n b) (negate_full n b)

pub partner_partner : (c : Letter) → partner (partner c) ≡ c
partner_partner U = refl
partner_partner X = refl
partner_partner C00 = refl
partner_partner C01 = refl
partner_partner C10 = refl
partner_partner C11 = refl

pub full_negate : (f : Rule) (b : Bool) → negate (full (arity f) b) ≡ full (arity (negate f)) (not b)
full_negate f b = negate_full (arity f) b ∙ ap (λ n. full n (not b)) (sym (arity_negate f))

pub negate_on : (c : Letter) (f : Rule) → negate (on c f) ≡ on (partner c) (negate f)
negate_on U f = refl
negate_on X f = refl
negate_on C00 f = ap (λ g. g ⋆ negate f) (full_negate f false)
negate_on C01 f = ap (λ g. g ⋆ negate f) (full_negate f true)
negate_on C10 f = ap (λ g. negate f ⋆ g) (full_negate f false)
negate_on C11 f = ap (λ g. negate f ⋆ g) (full_negate f true)

pub arity_on : (c : Letter) (f : Rule) → arity (on c f) ≡ suc (arity f)
arity_on U f = refl
arity_on X f = refl
arity_on C00 f = ap suc (arity_full (arity f) false)
arity_on C01 f = ap suc (arity_full (arity f) true)
arity_on C10 f = refl
arity_on C11 f = refl

pub spell_us : (n : ℕ) (b : Bool) → spell (replicate n U) (constant b) ≡ full n b
spell_us zero b = refl
spell_us (suc n) b = ap₂ ◌⋆◌ (spell_us n b) (spell_us n b)

-- Signs --

pub flip_flip : (e : Edge) → flip (flip e) ≡ e
flip_flip e = ap (λ n. edge n e.word e.target) (not-not e.negated)

put_flip_at : (n : Bool) (c : Letter) (w : List Letter) (t : Target) → flip (put c (edge n w t)) ≡ put (partner c) (flip (edge n w t))
put_flip_at true c w t = refl
put_flip_at false c w t = ap (λ d. edge true (d ∷ w) t) (sym (partner_partner c))

pub put_flip : (c : Letter) (e : Edge) → flip (put c e) ≡ put (partner c) (flip e)
put_flip c e = put_flip_at e.negated c e.word e.target

sign_not : (n : Bool) (f : Rule) → sign (not n) f ≡ negate (sign n f)
sign_not true f = sym (negate_negate f)
sign_not false f = refl

pub sense_flip : (r : ℕ → Rule) (e : Edge) → sense r (flip e) ≡ negate (sense r e)
sense_flip r e = sign_not e.negated (spell e.word (foot r e.target))

pub sign_on : (n : Bool) (c : Letter) (f : Rule) → sign n (on (turned n c) f) ≡ on c (sign n f)
sign_on true c f = negate_on (partner c) f ∙ ap (λ d. on d (negate f)) (partner_partner c)
sign_on false c f = refl

pub sense_put : (r : ℕ → Rule) (c : Letter) (e : Edge) → sense r (put c e) ≡ on c (sense r e)
sense_put r c e = sign_on e.negated c (spell e.word (foot r e.target))

pub arity_sign : (n : Bool) (f : Rule) → arity (sign n f) ≡ arity f
arity_sign true f = arity_negate f
arity_sign false f = refl

sign_full : (n : ℕ) (b : Bool) → sign b (full n false) ≡ full n b
sign_full n true = negate_full n false
sign_full n false = refl

pub sense_flat : (r : ℕ → Rule) (D : Meaning) (n : ℕ) (b : Bool) → sense r (flat D n b) ≡ full n b
sense_flat r D n b = go D.negates
  where
    go : (m : Bool) → sense r (cond m (edge b (replicate n U) (terminal false)) (edge false (replicate n U) (terminal b))) ≡ full n b
    go true = ap (sign b) (spell_us n false) ∙ sign_full n b
    go false = spell_us n b

-- Tests --

pub letter_of_code : (c : Letter) → letter_of (letter_code c) ≡ c
letter_of_code U = refl
letter_of_code X = refl
letter_of_code C00 = refl
letter_of_code C01 = refl
letter_of_code C10 = refl
letter_of_code C11 = refl

pub letter_eq : (c d : Letter) → eqb (letter_code c) (letter_code d) ≡ true → c ≡ d
letter_eq c d e = sym (letter_of_code c) ∙ ap letter_of (eqb-true (letter_code c) (letter_code d) e) ∙ letter_of_code d

pub beq_refl : (b : Bool) → beq b b ≡ true
beq_refl true = refl
beq_refl false = refl

pub beq_eq : (a b : Bool) → beq a b ≡ true → a ≡ b
beq_eq true true e = refl
beq_eq true false e = cc
beq_eq false true e = cc
beq_eq false false e = refl

pub same_word_refl : (w : List Letter) → same_word w w ≡ true
same_word_refl [] = refl
same_word_refl (c ∷ w) = rw (eq-eqb (letter_code c) (letter_code c) refl) (same_word_refl w)

pub same_word_eq : (w v : List Letter) → same_word w v ≡ true → w ≡ v
same_word_eq [] [] e = refl
same_word_eq [] (d ∷ v) e = cc
same_word_eq (c ∷ w) [] e = cc
same_word_eq (c ∷ w) (d ∷ v) e =
    ap₂ ◌∷◌ (letter_eq c d (and_parts (eqb (letter_code c) (letter_code d)) (same_word w v) e).0) (same_word_eq w v (and_parts (eqb (letter_code c) (letter_code d)) (same_word w v) e).1)

pub same_target_refl : (t : Target) → same_target t t ≡ true
same_target_refl (terminal b) = beq_refl b
same_target_refl (diamond k) = eq-eqb k k refl

pub same_target_eq : (t v : Target) → same_target t v ≡ true → t ≡ v
same_target_eq (terminal b) (terminal c) e = ap terminal (beq_eq b c e)
same_target_eq (terminal b) (diamond k) e = cc
same_target_eq (diamond j) (terminal c) e = cc
same_target_eq (diamond j) (diamond k) e = ap diamond (eqb-true j k e)

pub same_refl : (e : Edge) → same e e ≡ true
same_refl e = rw (beq_refl e.negated, same_word_refl e.word) (same_target_refl e.target)

pub same_eq : (a b : Edge) → same a b ≡ true → a ≡ b
same_eq a b e =
    let p = beq_eq a.negated b.negated (and_parts (beq a.negated b.negated) (same_word a.word b.word && same_target a.target b.target) e).0 in
    let r = (and_parts (beq a.negated b.negated) (same_word a.word b.word && same_target a.target b.target) e).1 in
    let q = same_word_eq a.word b.word (and_parts (same_word a.word b.word) (same_target a.target b.target) r).0 in
    let t = same_target_eq a.target b.target (and_parts (same_word a.word b.word) (same_target a.target b.target) r).1 in
    λ i. edge (p i) (q i) (t i)

pub same_diamond_refl : (n : Diamond) → same_diamond n n ≡ true
same_diamond_refl n = rw (same_refl n.low) (same_refl n.high)

pub same_diamond_eq : (m n : Diamond) → same_diamond m n ≡ true → m ≡ n
same_diamond_eq m n e =
    let p = same_eq m.low n.low (and_parts (same m.low n.low) (same m.high n.high) e).0 in
    let q = same_eq m.high n.high (and_parts (same m.low n.low) (same m.high n.high) e).1 in
    λ i. pair (p i) (q i)

beq_not : (a b : Bool) → beq (not a) (not b) ≡ beq a b
beq_not true true = refl
beq_not true false = refl
beq_not false true = refl
beq_not false false = refl

pub same_flip : (a b : Edge) → same (flip a) (flip b) ≡ same a b
same_flip a b = ap (λ x. x && (same_word a.word b.word && same_target a.target b.target)) (beq_not a.negated b.negated)

-- Looks of flipped edges --

abbrev pub turn_constant : Option Bool → Option Bool
turn_constant (Some false) = Some true
turn_constant (Some true) = Some false
turn_constant None = None

some_flips : (n b : Bool) → Some (flips (not n) b) ≡ turn_constant (Some (flips n b))
some_flips true true = refl
some_flips true false = refl
some_flips false true = refl
some_flips false false = refl

constant_flip_at : (a n : Bool) (t : Target) → constant_at a (not n) t ≡ turn_constant (constant_at a n t)
constant_flip_at true n (terminal b) = some_flips n b
constant_flip_at true n (diamond k) = refl
constant_flip_at false n t = refl

pub constant_flip : (e : Edge) → constant_value (flip e) ≡ turn_constant (constant_value e)
constant_flip e = constant_flip_at (all_u e.word) e.negated e.target

look_turn : (j k : Option Bool) (o : Bool) → look_at (turn_constant j) (turn_constant k) o ≡ turn (look_at j k o)
look_turn (Some false) (Some false) o = refl
look_turn (Some false) (Some true) o = refl
look_turn (Some false) None o = refl
look_turn (Some true) (Some false) o = refl
look_turn (Some true) (Some true) o = refl
look_turn (Some true) None o = refl
look_turn None (Some false) o = refl
look_turn None (Some true) o = refl
look_turn None None true = refl
look_turn None None false = refl

pub look_flip : (D : Meaning) (l h : Edge) → look D (flip l) (flip h) ≡ turn (look D l h)
look_flip D l h =
    ap₂ (λ j k. look_at j k (D.negates && same (flip l) (flip (flip h)))) (constant_flip l) (constant_flip h)
    ∙ ap (λ (o : Bool). look_at (turn_constant (constant_value l)) (turn_constant (constant_value h)) (D.negates && o)) (same_flip l (flip h))
    ∙ look_turn (constant_value l) (constant_value h) (D.negates && same l (flip h))
