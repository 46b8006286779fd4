-- The theorems, as contracts cite them.
use Rattle.std.specs.Prelude.{◌≡◌, ℕ, ◌-◌, ◌/◌, ◌%◌, ◌^◌, ◌<◌, ◌≤◌, Bool, true, not, ◌↔◌, length, filter, ◌==◌, nat_le}
use Rattle.std.specs.List.{range_with_len}
use Rattle.diagram.specs.declared.meanings.Meaning.{Meaning}
use Rattle.diagram.specs.Rules.{Rule, arity, Balanced, negate, full, variable, value, pointwise, ones, tally}
use Rattle.diagram.specs.Edges.{Edge, Store, rule_of}
use Rattle.diagram.specs.Dialects.{Lawful, lawful, Wider}
use Rattle.diagram.specs.Making.{Made, insert, count}
use Rattle.diagram.specs.Acceptance.{Acceptable, acceptable, Normal, normal, Accepted, Sound}
use Rattle.diagram.specs.Walks.{walk}

-- Rules and values --

-- two rules of as many marks are the same if they have the same value at every assignment
abbrev pub ValuesTell : Type 0
ValuesTell = (f g : Rule) → Balanced f → Balanced g → arity f ≡ arity g → ((a : ℕ) → a < 2 ^ arity f → value f a ≡ value g a) → f ≡ g

-- the values of a constant, of a variable (bit i of the assignment), of a negation and of a combination
abbrev pub RulesValued : Type 0
RulesValued =
    ((n : ℕ) (b : Bool) (a : ℕ) → value (full n b) a ≡ b)
    × ((n i a : ℕ) → i < n → value (variable n i) a ≡ (a / 2 ^ i % 2 == 1))
    × ((f : Rule) (a : ℕ) → value (negate f) a ≡ not (value f a))
    × ((op : Bool → Bool → Bool) (f g : Rule) → Balanced f → Balanced g → arity f ≡ arity g → (a : ℕ) → value (pointwise op f g) a ≡ op (value f a) (value g a))

-- the tree f is a rule of n marks
abbrev pub OfMarks : ℕ → Rule → Type 0
OfMarks n f = Balanced f × (arity f ≡ n)

-- a constant and a variable are rules of the marks asked for, a negation and a combination of as many marks as what they are made of
abbrev pub RulesFormed : Type 0
RulesFormed =
    ((n : ℕ) (b : Bool) → OfMarks n (full n b))
    × ((n i : ℕ) → OfMarks n (variable n i))
    × ((f : Rule) → Balanced f → OfMarks (arity f) (negate f))
    × ((op : Bool → Bool → Bool) (f g : Rule) → Balanced f → Balanced g → arity f ≡ arity g → OfMarks (arity f) (pointwise op f g))

-- `ones` counts the assignments at which the value is 1
abbrev pub OnesCounted : Type 0
OnesCounted = (f : Rule) → Balanced f → tally (value f) (2 ^ arity f) ≡ ones f

-- Dialects --

-- the test of a dialect says just that it is lawful
abbrev pub LawfulTested : Type 0
LawfulTested = (D : Meaning) → (lawful D ≡ true) ↔ Lawful D

-- Inserting --

-- inserting keeps the store normal, only adds diamonds, and gives an accepted edge that means the rule
abbrev pub InsertSound : Type 0
InsertSound = (D : Meaning) → Lawful D → (s : Store) → Normal D s → (f : Rule) → Balanced f → Sound D s f (insert D s f)

-- of the diamonds that a walk from what was inserted meets, those that are new are all the new ones, in the order of their numbers
abbrev pub InsertReaches : Type 0
InsertReaches =
    (D : Meaning) → Lawful D → (s : Store) → Normal D s → (f : Rule) → Balanced f →
    let m : Made = insert D s f in
    filter (λ k. nat_le (length s) k) (walk m.0 m.1) ≡ range_with_len (length s) (length m.0 - length s)

-- inserting what an accepted edge means changes nothing, and gives that edge
abbrev pub InsertBack : Type 0
InsertBack = (D : Meaning) → Lawful D → (s : Store) → Normal D s → (e : Edge) → Accepted D s e → insert D s (rule_of s e) ≡ (s, e)

-- Accepted edges --

-- accepted edges with as many marks and the same value at every assignment are the same
abbrev pub EdgesTold : Type 0
EdgesTold =
    (D : Meaning) → Lawful D → (s : Store) → Normal D s → (d e : Edge) → Accepted D s d → Accepted D s e → arity (rule_of s d) ≡ arity (rule_of s e) →
    ((a : ℕ) → a < 2 ^ arity (rule_of s d) → value (rule_of s d) a ≡ value (rule_of s e) a) → d ≡ e

-- an edge is acceptable just where it has at most 20 marks and inserting what it means changes nothing and gives the edge
abbrev pub AcceptableTold : Type 0
AcceptableTold =
    (D : Meaning) → Lawful D → (s : Store) → Normal D s → (e : Edge) →
    Acceptable D s e ↔ ((arity (rule_of s e) ≤ 20) × (insert D s (rule_of s e) ≡ (s, e)))

-- the tests of an edge and of a store say just that the edge is acceptable, and that the store is normal
abbrev pub AcceptableTested : Type 0
AcceptableTested = (D : Meaning) (s : Store) (e : Edge) → (acceptable D s e ≡ true) ↔ Acceptable D s e

-- the test of a store says just that it is normal
abbrev pub NormalTested : Type 0
NormalTested = (D : Meaning) (s : Store) → (normal D s ≡ true) ↔ Normal D s

-- Counting --

-- an accepted edge reaches as many diamonds as its rule makes in an empty store
abbrev pub WalkCounts : Type 0
WalkCounts = (D : Meaning) → Lawful D → (s : Store) → Normal D s → (e : Edge) → Accepted D s e → length (walk s e) ≡ count D (rule_of s e)

-- a wider dialect needs no more diamonds for any rule
abbrev pub CountFalls : Type 0
CountFalls = (D W : Meaning) → Lawful D → Lawful W → Wider D W → (f : Rule) → Balanced f → count W f ≤ count D f
