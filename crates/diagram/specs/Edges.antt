-- Edges, diamonds and stores, and what they mean.
-- Here a word is a list of letters and a store is a list of diamonds, the newest first, so that the tail of a store is the store as it was before;
-- diamond k is the one with k diamonds behind it. Records.antt says which of these the program's edges and lists of diamonds stand for.
use Rattle.std.specs.Prelude.{ℕ, Bool, true, false, cond, not, ◌&&◌, List, [], ◌∷◌, length, ◌==◌}
use Rattle.std.specs.Bool.{beq}
use Rattle.diagram.specs.declared.letters.Letter.{Letter}
use Rattle.diagram.specs.Rules.{Rule, constant, ◌⋆◌, negate}
use Rattle.diagram.specs.Letters.{on, partner, letter_code}

-- the terminal with the value b, or the diamond with the number k
pub data Target : Type 0 where
  terminal : Bool → Target
  diamond : ℕ → Target

-- a mark, a word with the topmost letter first, and a target
pub record Edge : Type 0 where
  pub negated : Bool
  pub word : List Letter
  pub target : Target

-- the edge with these parts
abbrev pub edge : Bool → List Letter → Target → Edge
edge n w t = record { negated = n; word = w; target = t }

-- two edges, low and high
pub record Diamond : Type 0 where
  pub low : Edge
  pub high : Edge

-- the diamond with these edges
abbrev pub pair : Edge → Edge → Diamond
pair l h = record { low = l; high = h }

-- the diamonds of an engine, the newest first
abbrev pub Store : Type 0
Store = List Diamond

-- What an edge means --

-- every value reversed where the mark is 1
abbrev pub sign : Bool → Rule → Rule
sign true f = negate f
sign false f = f

-- the letters of a word on a rule, the topmost last
abbrev pub spell : List Letter → Rule → Rule
spell [] f = f
spell (c ∷ w) f = on c (spell w f)

-- the rule of a target, where r has the rules of the diamonds
abbrev pub foot : (ℕ → Rule) → Target → Rule
foot r (terminal b) = constant b
foot r (diamond k) = r k

-- the rule of an edge, where r has the rules of the diamonds
abbrev pub sense : (ℕ → Rule) → Edge → Rule
sense r e = sign e.negated (spell e.word (foot r e.target))

-- the rule of diamond k of a store: its low edge's rule where the first mark is 0, its high edge's where it is 1.
-- The edges of a diamond are read in the store as it was before it; a diamond that does not stand there means the constant 0.
abbrev pub diamond_rule : Store → ℕ → Rule
diamond_rule [] k = constant false
diamond_rule (n ∷ s) k =
    cond (k == length s) (sense (diamond_rule s) n.low ⋆ sense (diamond_rule s) n.high) (diamond_rule s k)

-- the rule that an edge means in a store
abbrev pub rule_of : Store → Edge → Rule
rule_of s e = sense (diamond_rule s) e

-- diamond k of a store
abbrev pub diamond_at : Store → ℕ → Diamond
diamond_at [] k = pair (edge false [] (terminal false)) (edge false [] (terminal false))
diamond_at (n ∷ s) k = cond (k == length s) n (diamond_at s k)

-- Negating an edge, and setting a letter on it --

-- the edge with the other mark
abbrev pub flip : Edge → Edge
flip e = edge (not e.negated) e.word e.target

-- the letter that is written for the letter c: under a mark it is the partner
abbrev pub turned : Bool → Letter → Letter
turned true c = partner c
turned false c = c

-- the letter c set on an edge
abbrev pub put : Letter → Edge → Edge
put c e = edge e.negated (turned e.negated c ∷ e.word) e.target

-- Equality, as tests --

-- the same letters in the same order
abbrev pub same_word : List Letter → List Letter → Bool
same_word [] [] = true
same_word [] (c ∷ w) = false
same_word (c ∷ w) [] = false
same_word (c ∷ w) (d ∷ v) = letter_code c == letter_code d && same_word w v

-- the same terminal, or the same diamond
abbrev pub same_target : Target → Target → Bool
same_target (terminal b) (terminal c) = beq b c
same_target (terminal b) (diamond k) = false
same_target (diamond j) (terminal c) = false
same_target (diamond j) (diamond k) = j == k

-- the same mark, word and target
abbrev pub same : Edge → Edge → Bool
same a b = beq a.negated b.negated && (same_word a.word b.word && same_target a.target b.target)

-- the same low edge and the same high edge
abbrev pub same_diamond : Diamond → Diamond → Bool
same_diamond a b = same a.low b.low && same a.high b.high
