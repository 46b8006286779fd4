-- Notions that proofs share and no contract cites.
use Rattle.std.proofs.Common.{◌≡◌, ℕ, zero, suc, ◌<◌, ◌≤◌, true, cond, eqb, ◌⊎◌, ◌↔◌, List, [], ◌∷◌, length}
use Rattle.diagram.specs.declared.letters.Letter.{Letter}
use Rattle.diagram.specs.declared.meanings.Meaning.{Meaning}
use Rattle.diagram.specs.Rules.{Rule, constant, ◌⋆◌, arity, Balanced}
use Rattle.diagram.specs.Letters.{on}
use Rattle.diagram.specs.Words.{numeral, letters_of, Spells}
use Rattle.diagram.specs.Edges.{Target, terminal, diamond, diamond_at, Edge, edge, pair, Store, rule_of}
use Rattle.diagram.specs.Dialects.{has_letter, Lawful}
use Rattle.diagram.specs.Making.{Made, make, insert, low_half, high_half}
use Rattle.diagram.specs.Acceptance.{Accepted, accepts, Normal, Shallow, Within}
use Rattle.diagram.specs.Walks.{met, visit, reached}

-- the halves of the edge e are what they should be, and making gives e back from them
pub record Halves (D : Meaning) (s : Store) (e : Edge) : Type 0 where
  pub rule : rule_of s e ≡ rule_of s (low_half D s e) ⋆ rule_of s (high_half D s e)
  pub low_accepted : Accepted D s (low_half D s e)
  pub high_accepted : Accepted D s (high_half D s e)
  pub made : make D s (low_half D s e) (high_half D s e) ≡ (s, e)

-- no letter of the dialect stands for the rule
abbrev pub Bare : Meaning → Rule → Type 0
Bare D r = (c : Letter) → has_letter D c ≡ true → (f : Rule) → on c f ≡ r → ⊥

-- g is f, or a half of it, or a half of a half, and so on
abbrev pub Sub : Rule → Rule → Type 0
Sub g (constant b) = g ≡ constant b
Sub g (f ⋆ h) = (g ≡ f ⋆ h) ⊎ (Sub g f ⊎ Sub g h)

-- the new number of the diamond k among the numbers seen
abbrev pub place : List ℕ → ℕ → ℕ
place [] k = 0
place (j ∷ seen) k = cond (eqb k j) (length seen) (place seen k)

abbrev pub retarget : List ℕ → Target → Target
retarget seen (terminal b) = terminal b
retarget seen (diamond k) = diamond (place seen k)

abbrev pub moved : List ℕ → Edge → Edge
moved seen e = edge e.negated e.word (retarget seen e.target)

-- the diamonds seen, under their new numbers; below a diamond are only diamonds met before it
abbrev pub copied : Store → List ℕ → Store
copied s [] = []
copied s (j ∷ seen) = pair (moved seen (diamond_at s j).low) (moved seen (diamond_at s j).high) ∷ copied s seen

abbrev pub renumbered : Store → Edge → Made
renumbered s e = (copied s (reached s e), moved (reached s e) e)

-- the numbers below n, the last first
abbrev pub firsts : ℕ → List ℕ
firsts zero = []
firsts (suc n) = n ∷ firsts n

-- below each diamond are only diamonds before it
abbrev pub Lower : Store → Type 0
Lower [] = Unit {0}
Lower (n ∷ s) = Lower s × (Within s n.low.target × Within s n.high.target)

-- inserting a rule of at most 20 marks adds no diamond of more
abbrev pub InsertShallow : Type 0
InsertShallow = (D : Meaning) → Lawful D → (s : Store) → Normal D s → Shallow s → (f : Rule) → Balanced f → arity f ≤ 20 → Shallow (insert D s f).0

-- accepted edges that mean the same are the same
abbrev pub OneEdge : Type 0
OneEdge =
    (D : Meaning) → Lawful D → (s : Store) → Normal D s → (d e : Edge) → Accepted D s d → Accepted D s e → rule_of s d ≡ rule_of s e → d ≡ e

-- an edge is accepted just where inserting what it means changes nothing and gives the edge
abbrev pub AcceptedTold : Type 0
AcceptedTold = (D : Meaning) → Lawful D → (s : Store) → Normal D s → (e : Edge) → Accepted D s e ↔ (insert D s (rule_of s e) ≡ (s, e))

-- the test of an edge says just that it is accepted
abbrev pub AcceptsRight : Type 0
AcceptsRight = (D : Meaning) (s : Store) (e : Edge) → (accepts D s e ≡ true) ↔ Accepted D s e

-- the halves of an accepted edge of some mark
abbrev pub HalvesRight : Type 0
HalvesRight = (D : Meaning) → Lawful D → (s : Store) → Normal D s → (e : Edge) → Accepted D s e → 0 < arity (rule_of s e) → Halves D s e

-- what a walk from an accepted edge meets, numbered in that order, is what inserting its rule into an empty store gives
abbrev pub WalkIsInsert : Type 0
WalkIsInsert = (D : Meaning) → Lawful D → (s : Store) → Normal D s → (e : Edge) → Accepted D s e → renumbered s e ≡ insert D [] (rule_of s e)

-- one step of a walk, from the diamond k of diamonds that go down
abbrev pub VisitStep : Type 0
VisitStep =
    (s : Store) → Lower s → (k : ℕ) → k < length s → (seen : List ℕ) →
    visit s (diamond k) seen ≡ cond (met seen k) seen (k ∷ visit s (diamond_at s k).high.target (visit s (diamond_at s k).low.target seen))

-- the letters of a word's numeral are the word
abbrev pub WordsRead : Type 0
WordsRead = (w : List Letter) → (letters_of (length w) (numeral w) ≡ w) × Spells (length w) (numeral w)

-- and the numeral of a numeral's letters is the numeral
abbrev pub WordsWritten : Type 0
WordsWritten = (n x : ℕ) → Spells n x → (numeral (letters_of n x) ≡ x) × (length (letters_of n x) ≡ n)
