-- Dialects: the looks of two halves, which letters fit a look, and when a dialect is lawful.
use Rattle.std.specs.Prelude.{◌≡◌, Bool, true, false, cond, not, ◌&&◌, ◌↔◌, List, [], ◌∷◌, Some, None, Option, ◌==◌}
use Rattle.diagram.specs.declared.letters.Letter.{Letter}
use Rattle.diagram.specs.declared.letters.Letter.TheVariants.{U, X, C00, C01, C10, C11}
use Rattle.diagram.specs.declared.letters.Look.{Look}
use Rattle.diagram.specs.declared.letters.Look.TheVariants.{ZeroOne, OneZero, ZeroOther, OneOther, OtherZero, OtherOne, Opposite, Plain}
use Rattle.diagram.specs.declared.meanings.Meaning.{Meaning}
use Rattle.diagram.specs.Letters.{partner, letter_code}
use Rattle.diagram.specs.Edges.{Target, terminal, diamond, Edge, flip, same}

-- whether the dialect has the letter
abbrev pub has_letter : Meaning → Letter → Bool
has_letter D U = D.letters.u
has_letter D X = D.letters.x
has_letter D C00 = D.letters.c00
has_letter D C01 = D.letters.c01
has_letter D C10 = D.letters.c10
has_letter D C11 = D.letters.c11

-- the dialect's answer at a look: a letter, or none
abbrev pub answer_at : Meaning → Look → Option Letter
answer_at D ZeroOne = D.answers.zero_one
answer_at D OneZero = D.answers.one_zero
answer_at D ZeroOther = D.answers.zero_other
answer_at D OneOther = D.answers.one_other
answer_at D OtherZero = D.answers.other_zero
answer_at D OtherOne = D.answers.other_one
answer_at D Opposite = D.answers.opposite
answer_at D Plain = D.answers.plain

-- Looks --

-- every letter is u
abbrev pub all_u : List Letter → Bool
all_u [] = true
all_u (c ∷ w) = letter_code c == 0 && all_u w

-- the value b, reversed under a mark
abbrev pub flips : Bool → Bool → Bool
flips true b = not b
flips false b = b

-- the value that an edge is seen to have everywhere, if any, by whether its word is of u alone, its mark and its target
abbrev pub constant_at : Bool → Bool → Target → Option Bool
constant_at true n (terminal b) = Some (flips n b)
constant_at true n (diamond k) = None
constant_at false n t = None

-- the value that an edge is seen to have everywhere: there is one where its word is of u alone and its target is a terminal
abbrev pub constant_value : Edge → Option Bool
constant_value e = constant_at (all_u e.word) e.negated e.target

-- the look of a low and a high half that differ, by the values of those that are constant; o is whether they are opposite
abbrev pub look_at : Option Bool → Option Bool → Bool → Look
look_at (Some false) (Some false) o = Plain
look_at (Some false) (Some true) o = ZeroOne
look_at (Some false) None o = ZeroOther
look_at (Some true) (Some false) o = OneZero
look_at (Some true) (Some true) o = Plain
look_at (Some true) None o = OneOther
look_at None (Some false) o = OtherZero
look_at None (Some true) o = OtherOne
look_at None None true = Opposite
look_at None None false = Plain

-- halves are opposite where the dialect negates and they differ in the mark alone
abbrev pub look : Meaning → Edge → Edge → Look
look D l h = look_at (constant_value l) (constant_value h) (D.negates && same l (flip h))

-- Letters that fit --

-- the value of the low half at a look, where it is constant
abbrev pub low_constant : Look → Option Bool
low_constant ZeroOne = Some false
low_constant OneZero = Some true
low_constant ZeroOther = Some false
low_constant OneOther = Some true
low_constant OtherZero = None
low_constant OtherOne = None
low_constant Opposite = None
low_constant Plain = None

-- the value of the high half at a look, where it is constant
abbrev pub high_constant : Look → Option Bool
high_constant ZeroOne = Some true
high_constant OneZero = Some false
high_constant ZeroOther = None
high_constant OneOther = None
high_constant OtherZero = Some false
high_constant OtherOne = Some true
high_constant Opposite = None
high_constant Plain = None

-- the halves are each other's negation: opposite others, and the two constants
abbrev pub opposed : Look → Bool
opposed ZeroOne = true
opposed OneZero = true
opposed ZeroOther = false
opposed OneOther = false
opposed OtherZero = false
opposed OtherOne = false
opposed Opposite = true
opposed Plain = false

-- the half is the constant b
abbrev pub is : Bool → Option Bool → Bool
is true (Some false) = false
is true (Some true) = true
is true None = false
is false (Some false) = true
is false (Some true) = false
is false None = false

-- u fits no look; x fits opposed halves where the dialect negates; c00 and c01 fit a low half 0 or 1, c10 and c11 a high half 0 or 1
abbrev pub fits : Meaning → Letter → Look → Bool
fits D U k = false
fits D X k = D.negates && opposed k
fits D C00 k = is false (low_constant k)
fits D C01 k = is true (low_constant k)
fits D C10 k = is false (high_constant k)
fits D C11 k = is true (high_constant k)

-- the look of both halves negated
abbrev pub turn : Look → Look
turn ZeroOne = OneZero
turn OneZero = ZeroOne
turn ZeroOther = OneOther
turn OneOther = ZeroOther
turn OtherZero = OtherOne
turn OtherOne = OtherZero
turn Opposite = Opposite
turn Plain = Plain

-- Lawful dialects --

-- the partner of an answer; none of none
abbrev pub partners : Option Letter → Option Letter
partners None = None
partners (Some c) = Some (partner c)

-- the laws of a dialect
pub record Lawful (D : Meaning) : Type 0 where
  -- it has u
  pub has_u : has_letter D U ≡ true
  -- it has x only if it negates
  pub has_x : has_letter D X ≡ true → D.negates ≡ true
  -- each answer is a letter of its own that fits
  pub own : (k : Look) (c : Letter) → answer_at D k ≡ Some c → (has_letter D c ≡ true) × (fits D c k ≡ true)
  -- it answers none exactly where none of its letters fits
  pub silent : (k : Look) → (answer_at D k ≡ None) ↔ ((c : Letter) → has_letter D c ≡ true → fits D c k ≡ false)
  -- if it negates, the look of both halves negated is answered by the partner
  pub turns : D.negates ≡ true → (k : Look) → answer_at D (turn k) ≡ partners (answer_at D k)

-- W is wider than D: it has every letter of D, and negates if D does
pub record Wider (D W : Meaning) : Type 0 where
  pub letters : (c : Letter) → has_letter D c ≡ true → has_letter W c ≡ true
  pub signs : D.negates ≡ true → W.negates ≡ true

-- The laws as a test --

-- p holds of all eight looks
abbrev pub every_look : (Look → Bool) → Bool
every_look p = p ZeroOne && (p OneZero && (p ZeroOther && (p OneOther && (p OtherZero && (p OtherOne && (p Opposite && p Plain))))))

-- p holds of all six letters
abbrev pub every_letter : (Letter → Bool) → Bool
every_letter p = p U && (p X && (p C00 && (p C01 && (p C10 && p C11))))

-- the answers are the same letter, or both are none
abbrev pub same_answer : Option Letter → Option Letter → Bool
same_answer None None = true
same_answer None (Some c) = false
same_answer (Some c) None = false
same_answer (Some c) (Some d) = letter_code c == letter_code d

-- the answer at the look k is a letter that the dialect has and that fits; or there is none, and none that it has fits
abbrev pub right_answer : Meaning → Look → Option Letter → Bool
right_answer D k None = every_letter (λ c. not (has_letter D c && fits D c k))
right_answer D k (Some c) = has_letter D c && fits D c k

-- the answer at the look k is right and, if the dialect negates, the turned look is answered by its partner
abbrev pub right_look : Meaning → Look → Bool
right_look D k =
    right_answer D k (answer_at D k) && cond D.negates (same_answer (answer_at D (turn k)) (partners (answer_at D k))) true

-- the laws of a dialect, as a test
abbrev pub lawful : Meaning → Bool
lawful D = has_letter D U && (cond (has_letter D X) D.negates true && every_look (right_look D))
