-- A rule is told by its values; and the values of the rules that calls ask for.
use Rattle.std.proofs.Common.{◌≡◌, ℕ, zero, suc, ◌+◌, ◌*◌, ◌/◌, ◌%◌, ◌^◌, ◌<◌, Bool, true, false, cond, not, eqb, sym, refl, ap, ◌∙◌, ap₂, arith}
use native.Mathlib.Nat.{pow-succ', div-div-eq-div-mul}
use Rattle.diagram.specs.Rules.{Rule, constant, ◌⋆◌, arity, Balanced, negate, full, value, pointwise, variable}
use Rattle.diagram.specs.Theorems.{ValuesTell, RulesValued}

pub value_low : (f g : Rule) (a : ℕ) → value (f ⋆ g) (2 * a) ≡ value f a
value_low f g a = let p : (2 * a) % 2 ≡ 0 = omega arith in let q : (2 * a) / 2 ≡ a = omega arith in rw (p, q)

pub value_high : (f g : Rule) (a : ℕ) → value (f ⋆ g) (2 * a + 1) ≡ value g a
value_high f g a = let p : (2 * a + 1) % 2 ≡ 1 = omega arith in let q : (2 * a + 1) / 2 ≡ a = omega arith in rw (p, q)

pub values_tell : ValuesTell
values_tell (constant b) (constant c) ef eg n h = ap constant (h 0 (omega arith))
values_tell (constant b) (g ⋆ g') ef eg n h = absurd (omega arith)
values_tell (f ⋆ f') (constant c) ef eg n h = absurd (omega arith)
values_tell (f ⋆ f') (g ⋆ g') ef eg n h =
    ap₂ ◌⋆◌
    (values_tell f g ef.0 eg.0 (omega arith)
    (λ a i. let j : 2 * a < 2 ^ suc (arity f) = omega arith in sym (value_low f f' a) ∙ h (2 * a) j ∙ value_low g g' a))
    (values_tell f' g' ef.1 eg.1 (omega arith)
    (λ a i. let e = ef.2 in let i' : a < 2 ^ arity f = rw e i in let j : 2 * a + 1 < 2 ^ suc (arity f) = omega arith in sym (value_high f f' a) ∙ h (2 * a + 1) j ∙ value_high g g' a))

-- Values of what is asked for --

value_full : (n : ℕ) (b : Bool) (a : ℕ) → value (full n b) a ≡ b
value_full zero b a = refl
value_full (suc n) b a = go (eqb (a % 2) 0) (value_full n b (a / 2))
  where
    go : (c : Bool) → value (full n b) (a / 2) ≡ b → cond c (value (full n b) (a / 2)) (value (full n b) (a / 2)) ≡ b
    go true p = p
    go false p = p

bit_one : (r : ℕ) → r < 2 → not (eqb r 0) ≡ eqb r 1
bit_one zero h = refl
bit_one (suc zero) h = refl
bit_one (suc (suc r)) h = absurd (omega arith)

value_variable : (n i a : ℕ) → i < n → value (variable n i) a ≡ eqb (a / 2 ^ i % 2) 1
value_variable zero i a h = absurd (omega arith)
value_variable (suc n) zero a h =
    let p : a / 2 ^ 0 ≡ a = omega arith in
    ap₂ (cond (eqb (a % 2) 0)) (value_full n false (a / 2)) (value_full n true (a / 2)) ∙ turn (eqb (a % 2) 0) ∙ bit_one (a % 2) (omega arith) ∙ ap (λ (x : ℕ). eqb (x % 2) 1) (sym p)
  where
    turn : (c : Bool) → cond c false true ≡ not c
    turn true = refl
    turn false = refl
value_variable (suc n) (suc i) a h = go (eqb (a % 2) 0) (value_variable n i (a / 2) (omega arith) ∙ ap (λ (x : ℕ). eqb (x % 2) 1) halves)
  where
    halves : a / 2 / 2 ^ i ≡ a / 2 ^ suc i
    halves = div-div-eq-div-mul a 2 (2 ^ i) ∙ ap (λ (x : ℕ). a / x) (sym (pow-succ' 2 i))

    go : (c : Bool) → value (variable n i) (a / 2) ≡ eqb (a / 2 ^ suc i % 2) 1 → cond c (value (variable n i) (a / 2)) (value (variable n i) (a / 2)) ≡ eqb (a / 2 ^ suc i % 2) 1
    go true p = p
    go false p = p

value_negate : (f : Rule) (a : ℕ) → value (negate f) a ≡ not (value f a)
value_negate (constant b) a = refl
value_negate (f ⋆ g) a = ap₂ (cond (eqb (a % 2) 0)) (value_negate f (a / 2)) (value_negate g (a / 2)) ∙ go (eqb (a % 2) 0) (value f (a / 2)) (value g (a / 2))
  where
    go : (c x y : Bool) → cond c (not x) (not y) ≡ not (cond c x y)
    go true x y = refl
    go false x y = refl

value_pointwise : (op : Bool → Bool → Bool) (f g : Rule) → Balanced f → Balanced g → arity f ≡ arity g → (a : ℕ) → value (pointwise op f g) a ≡ op (value f a) (value g a)
value_pointwise op (constant b) (constant c) ef eg e a = refl
value_pointwise op (constant b) (g ⋆ g') ef eg e a = absurd (omega arith)
value_pointwise op (f ⋆ f') (constant c) ef eg e a = absurd (omega arith)
value_pointwise op (f ⋆ f') (g ⋆ g') ef eg e a =
    let i : arity f ≡ arity g = omega arith in
    let j : arity f' ≡ arity g' = sym ef.2 ∙ i ∙ eg.2 in
    ap₂ (cond (eqb (a % 2) 0)) (value_pointwise op f g ef.0 eg.0 i (a / 2)) (value_pointwise op f' g' ef.1 eg.1 j (a / 2))
    ∙ go (eqb (a % 2) 0) (value f (a / 2)) (value f' (a / 2)) (value g (a / 2)) (value g' (a / 2))
  where
    go : (c x x' y y' : Bool) → cond c (op x y) (op x' y') ≡ op (cond c x x') (cond c y y')
    go true x x' y y' = refl
    go false x x' y y' = refl

pub rules_valued : RulesValued
rules_valued = (value_full, value_variable, value_negate, value_pointwise)
