-- The program's edges and diamonds, and which edges, diamonds and stores they stand for.
-- The program has a word as an octal numeral with a length, and its diamonds in a list, the oldest first: diamond k is at place k.
use Rattle.std.specs.Prelude.{ℕ, ◌+◌, Bool, true, false, cond, not, ◌&&◌, List, [], ◌∷◌, map, reverse, length, Some, None, Option, ◌==◌, nat_lt, option_map}
use Rattle.std.specs.Bool.{beq}
use Rattle.diagram.specs.declared.letters.Letter.{Letter}
use Rattle.diagram.specs.declared.letters.Letter.TheVariants.{U, X, C00, C01, C10, C11}
use Rattle.diagram.specs.declared.meanings.Meaning.{Meaning}
use Rattle.diagram.specs.declared.edges.Target.{Target as TargetRecord}
use Rattle.diagram.specs.declared.edges.Target.TheVariants.{Zero, One, Diamond as DiamondNumber}
use Rattle.diagram.specs.declared.edges.Edge.{Edge as EdgeRecord}
use Rattle.diagram.specs.declared.edges.Diamond.{Diamond as DiamondRecord}
use Rattle.diagram.specs.Rules.{arity}
use Rattle.diagram.specs.Words.{numeral, letters_of, spells, word, peeled, pushed}
use Rattle.diagram.specs.Edges.{Target, terminal, diamond, Edge, edge, Diamond, pair, Store, turned, foot, diamond_rule}
use Rattle.diagram.specs.Dialects.{flips, look_at, answer_at, same_answer}
use Rattle.diagram.specs.Acceptance.{acceptable}

-- What a record stands for --

-- the target that a program's target stands for
abbrev pub target_of : TargetRecord → Target
target_of Zero = terminal false
target_of One = terminal true
target_of (DiamondNumber k) = diamond k

-- the edge that a program's edge stands for, if its word spells
abbrev pub edge_of : EdgeRecord → Edge
edge_of e = edge e.negated (letters_of e.word.length e.word.digits) (target_of e.target)

-- the diamond that a program's diamond stands for
abbrev pub diamond_of : DiamondRecord → Diamond
diamond_of d = pair (edge_of d.low) (edge_of d.high)

-- the store that a program's list of diamonds stands for
abbrev pub store_of : List DiamondRecord → Store
store_of ds = reverse (map diamond_of ds)

-- And back --

-- the program's target
abbrev pub target_record : Target → TargetRecord
target_record (terminal false) = Zero
target_record (terminal true) = One
target_record (diamond k) = DiamondNumber k

-- the number of a target: 0 and 1 for the terminals, 2 + k for diamond k
abbrev pub target_number : TargetRecord → ℕ
target_number Zero = 0
target_number One = 1
target_number (DiamondNumber k) = 2 + k

-- the program's edge: its word is the numeral
abbrev pub edge_record : Edge → EdgeRecord
edge_record e = record { negated = e.negated; word = word (length e.word) (numeral e.word); target = target_record e.target }

-- the program's diamond
abbrev pub diamond_record : Diamond → DiamondRecord
diamond_record d = record { low = edge_record d.low; high = edge_record d.high }

-- the program's list of diamonds
abbrev pub diamonds_of : Store → List DiamondRecord
diamonds_of s = map diamond_record (reverse s)

-- Arity --

-- the arity of a target among the diamonds ds
abbrev pub target_arity : List DiamondRecord → TargetRecord → ℕ
target_arity ds t = arity (foot (diamond_rule (store_of ds)) (target_of t))

-- the arity of an edge is its length and its target's arity
abbrev pub arity_in : List DiamondRecord → EdgeRecord → ℕ
arity_in ds e = e.word.length + target_arity ds e.target

-- Words that spell, and acceptance --

-- a terminal stands everywhere, and a diamond where there are more diamonds than its number
abbrev pub stands_in : List DiamondRecord → TargetRecord → Bool
stands_in ds Zero = true
stands_in ds One = true
stands_in ds (DiamondNumber k) = nat_lt k (length ds)

-- the word is below 8^length, and each of its digits is a letter
abbrev pub spelled_edge : EdgeRecord → Bool
spelled_edge e = spells e.word.length e.word.digits

-- the words of all edges of the diamonds spell
abbrev pub spelled_diamonds : List DiamondRecord → Bool
spelled_diamonds [] = true
spelled_diamonds (d ∷ ds) = spelled_edge d.low && (spelled_edge d.high && spelled_diamonds ds)

-- the dialect D accepts the edge e among the diamonds ds
abbrev pub accepted_in : Meaning → List DiamondRecord → EdgeRecord → Bool
accepted_in D ds e = spelled_edge e && acceptable D (store_of ds) (edge_of e)

-- The letter for two halves --

-- the same terminal, or the same diamond
abbrev pub same_target_record : TargetRecord → TargetRecord → Bool
same_target_record Zero Zero = true
same_target_record Zero One = false
same_target_record Zero (DiamondNumber k) = false
same_target_record One Zero = false
same_target_record One One = true
same_target_record One (DiamondNumber k) = false
same_target_record (DiamondNumber j) Zero = false
same_target_record (DiamondNumber j) One = false
same_target_record (DiamondNumber j) (DiamondNumber k) = j == k

-- the same mark, length, word and target
abbrev pub same_record : EdgeRecord → EdgeRecord → Bool
same_record a b =
    beq a.negated b.negated && (a.word.length == b.word.length && (a.word.digits == b.word.digits && same_target_record a.target b.target))

-- the edge with the other mark
abbrev pub other_mark : EdgeRecord → EdgeRecord
other_mark e = record { negated = not e.negated; word = e.word; target = e.target }

-- the value that a program's edge is seen to have everywhere: there is one where its word is 0, so that every letter is u, and its target is a terminal
abbrev pub constant_to : Bool → Bool → TargetRecord → Option Bool
constant_to true n Zero = Some (flips n false)
constant_to true n One = Some (flips n true)
constant_to true n (DiamondNumber k) = None
constant_to false n t = None

-- the value that a program's edge is seen to have everywhere, if any
abbrev pub constant_of : EdgeRecord → Option Bool
constant_of e = constant_to (e.word.digits == 0) e.negated e.target

-- u for equal halves, else the dialect's answer at their look; halves are opposite where the dialect negates and they differ in the mark alone
abbrev pub letter_for : Meaning → EdgeRecord → EdgeRecord → Option Letter
letter_for D l h =
    cond (same_record l h) (Some U) (answer_at D (look_at (constant_of l) (constant_of h) (D.negates && same_record l (other_mark h))))

-- Diamonds by number --

-- the same low edge and the same high edge
abbrev pub same_diamond_record : DiamondRecord → DiamondRecord → Bool
same_diamond_record a b = same_record a.low b.low && same_record a.high b.high

-- the place of the diamond d in a list that has the newest first, counted from the oldest
abbrev pub number_behind : List DiamondRecord → DiamondRecord → Option ℕ
number_behind [] d = None
number_behind (x ∷ xs) d = cond (same_diamond_record x d) (Some (length xs)) (number_behind xs d)

-- the number of the diamond d among the diamonds ds, if it stands there; the last, if several do
abbrev pub number_of : List DiamondRecord → DiamondRecord → Option ℕ
number_of ds d = number_behind (reverse ds) d

-- Letters on an edge --

-- the letter c set on an edge: under a mark its partner is written; none where the word is too long or not below 8^length
abbrev pub with_letter : Letter → EdgeRecord → Option EdgeRecord
with_letter c e = option_map (λ w. record { negated = e.negated; word = w; target = e.target }) (pushed e.word (turned e.negated c))

-- the topmost letter of an edge, and the unmarked edge below it; none where the word has no letter on top
abbrev pub edge_below : EdgeRecord → Option (Letter × EdgeRecord)
edge_below e = option_map (λ p. (p.0, record { negated = false; word = p.1; target = e.target })) (peeled e.word)

-- the edge of n marks that is constantly b: u alone, so that the word is 0; where the dialect negates, one is the negated zero
abbrev pub constant_record : Meaning → ℕ → Bool → EdgeRecord
constant_record D n b =
    cond D.negates (record { negated = b; word = word n 0; target = Zero }) (record { negated = false; word = word n 0; target = cond b One Zero })

-- the low and the high half that a letter stands for, on the edge e of n marks
abbrev pub halves_on : Meaning → ℕ → Letter → EdgeRecord → EdgeRecord × EdgeRecord
halves_on D n U e = (e, e)
halves_on D n X e = (e, other_mark e)
halves_on D n C00 e = (constant_record D n false, e)
halves_on D n C01 e = (constant_record D n true, e)
halves_on D n C10 e = (e, constant_record D n false)
halves_on D n C11 e = (e, constant_record D n true)

-- the letter c on the edge e of n marks is the one for the halves that it stands for
abbrev pub letter_chosen : Meaning → ℕ → Letter → EdgeRecord → Bool
letter_chosen D n c e = same_answer (letter_for D (halves_on D n c e).0 (halves_on D n c e).1) (Some c)
