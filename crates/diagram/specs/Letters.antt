-- Letters: each makes a rule of one more mark from a rule.
use Rattle.std.specs.Prelude.{ℕ, zero, suc, true, false, cond, Some, None, Option, nat_le}
use Rattle.diagram.specs.declared.letters.Letter.{Letter}
use Rattle.diagram.specs.declared.letters.Letter.TheVariants.{U, X, C00, C01, C10, C11}
use Rattle.diagram.specs.Rules.{Rule, ◌⋆◌, arity, negate, full}

-- the rule that a letter makes from f: its low half, and its high half
abbrev pub on : Letter → Rule → Rule
on U f = f ⋆ f
on X f = f ⋆ negate f
on C00 f = full (arity f) false ⋆ f
on C01 f = full (arity f) true ⋆ f
on C10 f = f ⋆ full (arity f) false
on C11 f = f ⋆ full (arity f) true

-- the negation of a letter on f is the letter's partner on the negation of f
abbrev pub partner : Letter → Letter
partner U = U
partner X = X
partner C00 = C01
partner C01 = C00
partner C10 = C11
partner C11 = C10

-- the octal digit that stands for a letter
abbrev pub letter_code : Letter → ℕ
letter_code U = 0
letter_code X = 1
letter_code C00 = 2
letter_code C01 = 3
letter_code C10 = 4
letter_code C11 = 5

-- the letter that a digit stands for; digits over 5 stand for none, and nothing reads what is given for them here
abbrev pub letter_of : ℕ → Letter
letter_of zero = U
letter_of (suc zero) = X
letter_of (suc (suc zero)) = C00
letter_of (suc (suc (suc zero))) = C01
letter_of (suc (suc (suc (suc zero)))) = C10
letter_of (suc (suc (suc (suc (suc d))))) = C11

-- the letter that a digit stands for, if any
abbrev pub letter_with : ℕ → Option Letter
letter_with d = cond (nat_le d 5) (Some (letter_of d)) None
