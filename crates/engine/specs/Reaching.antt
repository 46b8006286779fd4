-- Which diamonds an edge reaches, and that a walk meets just these.
use Rattle.std.specs.Prelude.{◌≡◌, ℕ, ◌<◌, Bool, true, false, cond, not, ◌&&◌, ◌||◌, List, [], ◌∷◌, length, ◌==◌}
use Rattle.diagram.specs.declared.edges.Edge.{Edge as EdgeRecord}
use Rattle.diagram.specs.declared.edges.Diamond.{Diamond as DiamondRecord}
use Rattle.diagram.specs.declared.meanings.Meaning.{Meaning}
use Rattle.diagram.specs.Rules.{tally}
use Rattle.diagram.specs.Edges.{Target, terminal, diamond, Edge, Store, diamond_at}
use Rattle.diagram.specs.Dialects.{Lawful}
use Rattle.diagram.specs.Acceptance.{Normal}
use Rattle.diagram.specs.Records.{edge_of, store_of, accepted_in}
use Rattle.diagram.specs.RecordTheorems.{NormalIn}
use Rattle.diagram.specs.Walks.{met, walk}

-- the diamond k is reached from a target: it is the target itself, or it is reached from the target of one of that diamond's edges.
-- The edges of a diamond are read in the store as it was before it; from a diamond that does not stand nothing is reached.
abbrev pub reaches : Store → Target → ℕ → Bool
reaches [] t k = false
reaches (n ∷ s) (terminal b) k = false
reaches (n ∷ s) (diamond j) k =
    cond (j == length s) (k == j || (reaches s n.low.target k || reaches s n.high.target k)) (reaches s (diamond j) k)

-- from a diamond of a normal store are reached itself and what is reached from the targets of its edges, all in that store
abbrev pub ReachingStepped : Type 0
ReachingStepped =
    (D : Meaning) (s : Store) → Normal D s → (j : ℕ) → j < length s → (k : ℕ) →
    reaches s (diamond j) k ≡ (k == j || (reaches s (diamond_at s j).low.target k || reaches s (diamond_at s j).high.target k))

-- no number is in the list twice
abbrev pub once : List ℕ → Bool
once [] = true
once (k ∷ r) = not (met r k) && once r

-- a walk from the edge e of the store s meets the diamonds that the edge reaches
pub record WalkMeets (s : Store) (e : Edge) : Type 0 where
  -- just these
  pub each : (k : ℕ) → met (walk s e) k ≡ reaches s e.target k
  -- none twice
  pub apart : once (walk s e) ≡ true
  -- and as many as there are
  pub count : length (walk s e) ≡ tally (reaches s e.target) (length s)

-- so does a walk from each accepted edge
abbrev pub WalksMeet : Type 0
WalksMeet =
    (D : Meaning) → Lawful D → (ds : List DiamondRecord) → NormalIn D ds → (e : EdgeRecord) → accepted_in D ds e ≡ true → WalkMeets (store_of ds) (edge_of e)
