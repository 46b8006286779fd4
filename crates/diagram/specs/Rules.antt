-- Rules: Boolean functions of the marks of a sale, each as its perfect decision tree.
use Rattle.std.specs.Prelude.{◌≡◌, ℕ, zero, suc, ◌+◌, ◌/◌, ◌%◌, Bool, true, false, cond, not, ◌==◌}

infixr 60 ◌⋆◌
-- `constant b` has no mark and the value b; `low ⋆ high` is `low` of the later marks where the first mark is 0, and `high` of them where it is 1
pub data Rule : Type 0 where
  constant : Bool → Rule
  ◌⋆◌ : Rule → Rule → Rule

-- how many marks a rule has
abbrev pub arity : Rule → ℕ
arity (constant b) = 0
arity (f ⋆ g) = suc (arity f)

-- both halves have as many marks, all the way down: only such a tree is a function of `arity` marks
abbrev pub Balanced : Rule → Type 0
Balanced (constant b) = Unit {0}
Balanced (f ⋆ g) = Balanced f × Balanced g × (arity f ≡ arity g)

-- the value of a rule at an assignment, a number whose bit of worth 2^i is mark i
abbrev pub value : Rule → ℕ → Bool
value (constant b) a = b
value (f ⋆ g) a = cond (a % 2 == 0) (value f (a / 2)) (value g (a / 2))

-- every value reversed
abbrev pub negate : Rule → Rule
negate (constant b) = constant (not b)
negate (f ⋆ g) = negate f ⋆ negate g

-- the rule of n marks whose value is always b
abbrev pub full : ℕ → Bool → Rule
full zero b = constant b
full (suc n) b = full n b ⋆ full n b

-- the rule of n marks whose value is that of mark i, for i below n
abbrev pub variable : ℕ → ℕ → Rule
variable zero i = constant false
variable (suc n) zero = full n false ⋆ full n true
variable (suc n) (suc i) = variable n i ⋆ variable n i

-- the connective op at each assignment, of two rules of as many marks
abbrev pub pointwise : (Bool → Bool → Bool) → Rule → Rule → Rule
pointwise op (constant a) (constant b) = constant (op a b)
pointwise op (constant a) (g ⋆ g') = constant false
pointwise op (f ⋆ f') (constant b) = constant false
pointwise op (f ⋆ f') (g ⋆ g') = pointwise op f g ⋆ pointwise op f' g'

-- the worth of the bit that is a connective's value at (a, b)
abbrev pub worth : Bool → Bool → ℕ
worth false false = 1
worth false true = 2
worth true false = 4
worth true true = 8

-- the connective with the number o: and is 8, xor 6, or 14
abbrev pub connective : ℕ → Bool → Bool → Bool
connective o a b = o / worth a b % 2 == 1

-- how many values of a rule are 1
abbrev pub ones : Rule → ℕ
ones (constant b) = cond b 1 0
ones (f ⋆ g) = ones f + ones g

-- how many of the numbers below n pass the test p
abbrev pub tally : (ℕ → Bool) → ℕ → ℕ
tally p zero = 0
tally p (suc n) = tally p n + cond (p n) 1 0
