-- The theorems over the program's own edges and diamonds, as contracts cite them.
use Rattle.std.specs.Prelude.{◌≡◌, ℕ, ◌^◌, ◌<◌, ◌≤◌, true, ◌↔◌, List, length, take, Some}
use Rattle.diagram.specs.declared.letters.Letter.{Letter}
use Rattle.diagram.specs.declared.meanings.Meaning.{Meaning}
use Rattle.diagram.specs.declared.edges.Edge.{Edge as EdgeRecord}
use Rattle.diagram.specs.declared.edges.Diamond.{Diamond as DiamondRecord}
use Rattle.diagram.specs.Rules.{Rule, arity, Balanced, value}
use Rattle.diagram.specs.Edges.{put, rule_of}
use Rattle.diagram.specs.Dialects.{Lawful}
use Rattle.diagram.specs.Making.{Made, written, choose, find, insert, count}
use Rattle.diagram.specs.Acceptance.{normal}
use Rattle.diagram.specs.Walks.{walk}
use Rattle.diagram.specs.Records.{edge_of, store_of, edge_record, diamonds_of, arity_in, spelled_edge, spelled_diamonds, accepted_in, diamond_of, letter_for, with_letter, number_of}

-- the diamonds ds are normal in the dialect D, and the words of their edges spell
abbrev pub NormalIn : Meaning → List DiamondRecord → Type 0
NormalIn D ds = (normal D (store_of ds) ≡ true) × (spelled_diamonds ds ≡ true)

-- the rule that the edge e means among the diamonds ds
abbrev pub rule_in : List DiamondRecord → EdgeRecord → Rule
rule_in ds e = rule_of (store_of ds) (edge_of e)

-- an edge has as many marks as its length and its target's arity say, whatever the diamonds
abbrev pub ArityMeant : Type 0
ArityMeant = (ds : List DiamondRecord) (e : EdgeRecord) → arity (rule_in ds e) ≡ arity_in ds e

-- two accepted edges of as many marks are the same, in mark, length, word and target, just where they have the same value at every assignment
abbrev pub RecordsTold : Type 0
RecordsTold =
    (D : Meaning) → Lawful D → (ds : List DiamondRecord) → NormalIn D ds → (d e : EdgeRecord) → accepted_in D ds d ≡ true → accepted_in D ds e ≡ true →
    arity (rule_in ds d) ≡ arity (rule_in ds e) →
    (d ≡ e) ↔ ((a : ℕ) → a < 2 ^ arity (rule_in ds d) → value (rule_in ds d) a ≡ value (rule_in ds e) a)

-- an edge is accepted just where its word spells, it has at most 20 marks, and inserting what it means adds nothing and gives it back
abbrev pub AcceptedBack : Type 0
AcceptedBack =
    (D : Meaning) → Lawful D → (ds : List DiamondRecord) → NormalIn D ds → (e : EdgeRecord) →
    (accepted_in D ds e ≡ true)
    ↔ ((spelled_edge e ≡ true) × (arity (rule_in ds e) ≤ 20) × (insert D (store_of ds) (rule_in ds e) ≡ (store_of ds, edge_of e)))

-- of edges whose words spell: the letter for two halves is the one that making chooses; a letter set on an edge with a place above it is set as making sets it; a diamond is looked up under the number that making finds
pub record MakingMeant : Type 0 where
  pub chosen : (D : Meaning) (l h : EdgeRecord) → spelled_edge l ≡ true → spelled_edge h ≡ true → choose D (edge_of l) (edge_of h) ≡ written (letter_for D l h) (edge_of l) (edge_of h)
  pub set : (c : Letter) (e : EdgeRecord) → spelled_edge e ≡ true → e.word.length < 20 → with_letter c e ≡ Some (edge_record (put c (edge_of e)))
  pub found : (ds : List DiamondRecord) (d : DiamondRecord) → spelled_diamonds ds ≡ true → spelled_edge d.low ≡ true → spelled_edge d.high ≡ true → number_of ds d ≡ find (store_of ds) (diamond_of d)

-- the diamonds es and the edge e are a right answer to the rule f where the diamonds ds stood
pub record Answered (D : Meaning) (ds : List DiamondRecord) (f : Rule) (es : List DiamondRecord) (e : EdgeRecord) : Type 0 where
  -- the diamonds are normal, and begin with those that stood
  pub normal : NormalIn D es
  pub begins : take (length ds) es ≡ ds
  -- the edge is accepted among them, and means the rule
  pub accepted : accepted_in D es e ≡ true
  pub means : rule_in es e ≡ f
  -- each edge that was accepted still is, and means the rule that it meant
  pub lasting : (d : EdgeRecord) → accepted_in D ds d ≡ true → (accepted_in D es d ≡ true) × (rule_in es d ≡ rule_in ds d)

-- inserting a rule of at most 20 marks answers it rightly
abbrev pub AnswerAccepted : Type 0
AnswerAccepted =
    (D : Meaning) → Lawful D → (ds : List DiamondRecord) → NormalIn D ds → (f : Rule) → Balanced f → arity f ≤ 20 →
    let m : Made = insert D (store_of ds) f in
    Answered D ds f (diamonds_of m.0) (edge_record m.1)

-- an accepted edge reaches as many diamonds as its rule makes in an empty store
abbrev pub ReachedCounted : Type 0
ReachedCounted =
    (D : Meaning) → Lawful D → (ds : List DiamondRecord) → NormalIn D ds → (e : EdgeRecord) → accepted_in D ds e ≡ true →
    length (walk (store_of ds) (edge_of e)) ≡ count D (rule_in ds e)
