-- Refusals: the number of each, and what it carries.
use Rattle.std.specs.Prelude.{◌≡◌, ◌↔◌, ℕ, Bool, List, [], ◌∷◌, Some, None, Option, IsTrue, nat_eq}
use Rattle.std.specs.Option.{option_eq}
use Rattle.std.specs.Ordering.{eq_of_both, on}
use Rattle.diagram.specs.declared.refusals.Refusal.{Refusal}
use Rattle.diagram.specs.declared.refusals.Refusal.TheVariants.{
  ArityOver,
  NotAccepted,
  AritiesDiffer,
  NoVariable,
  NoConnective,
  AssignmentOver,
  Full,
  BufferShort,
  FileLength,
  FileDialect,
  FileArity,
  BadRecord,
  FileForm,
  UnknownByte,
  MarkOver,
  MissingOperands,
  TooManyPending,
  PendingAtEnd,
  FirstLine,
  NoPlace,
}

-- the number that a refusal is reported by
abbrev pub refusal_number : Refusal → ℕ
refusal_number ArityOver = 1
refusal_number NotAccepted = 2
refusal_number AritiesDiffer = 3
refusal_number NoVariable = 4
refusal_number NoConnective = 5
refusal_number AssignmentOver = 6
refusal_number Full = 7
refusal_number BufferShort = 8
refusal_number FileLength = 9
refusal_number FileDialect = 10
refusal_number FileArity = 11
refusal_number (BadRecord place) = 12
refusal_number FileForm = 13
refusal_number UnknownByte = 14
refusal_number MarkOver = 15
refusal_number MissingOperands = 16
refusal_number TooManyPending = 17
refusal_number PendingAtEnd = 18
refusal_number FirstLine = 19
refusal_number NoPlace = 20

-- the values that it carries: a bad record its place, every other none
abbrev pub refusal_values : Refusal → List ℕ
refusal_values ArityOver = []
refusal_values NotAccepted = []
refusal_values AritiesDiffer = []
refusal_values NoVariable = []
refusal_values NoConnective = []
refusal_values AssignmentOver = []
refusal_values Full = []
refusal_values BufferShort = []
refusal_values FileLength = []
refusal_values FileDialect = []
refusal_values FileArity = []
refusal_values (BadRecord place) = place ∷ []
refusal_values FileForm = []
refusal_values UnknownByte = []
refusal_values MarkOver = []
refusal_values MissingOperands = []
refusal_values TooManyPending = []
refusal_values PendingAtEnd = []
refusal_values FirstLine = []
refusal_values NoPlace = []

-- the first of some values, if there is one
abbrev pub first_value : List ℕ → Option ℕ
first_value [] = None
first_value (v ∷ vs) = Some v

-- the test of equal refusals: the same number, and the same first value or none
abbrev pub same_refusal : Refusal → Refusal → Bool
same_refusal = eq_of_both (on refusal_number nat_eq) (on (λ x. first_value (refusal_values x)) (option_eq nat_eq))

-- it holds just of a refusal and itself
abbrev pub RefusalsTold : Type 0
RefusalsTold = (x y : Refusal) → IsTrue (same_refusal x y) ↔ (x ≡ y)
