-- What a note leaves in a cache and in its table.
use Rattle.std.specs.Prelude.{◌≡◌, ◌<◌, Bool, true, ◌⊎◌, length, Some, None, Option, ◌≢◌}
use Rattle.diagram.specs.declared.edges.Edge.{Edge}
use Rattle.cache.specs.declared.entries.Key.{Key}
use Rattle.cache.specs.declared.tables.Table.{Table}
use Rattle.cache.specs.Tables.{Stands}

-- The cache gave `gave` with the table `before` and gives `gives` with the table `after`; the edge was noted for the key.
pub record Noted (keeps : Bool) (before after : Table) (gave gives : Key → Option Edge) (key : Key) (edge : Edge) : Type 0 where
  -- the noted key gives that edge or none
  pub own : (gives key ≡ Some edge) ⊎ (gives key ≡ None)
  -- it gives that edge if the cache keeps and the table has a place
  pub kept : keeps ≡ true → 0 < length before → gives key ≡ Some edge
  -- any other key gives what it gave, or none
  pub others : (k : Key) → (k ≢ key) → (gives k ≡ gave k) ⊎ (gives k ≡ None)
  -- each entry that stands in the table stood there before, or is the noted one
  pub adds : (k : Key) (e : Edge) → Stands after k e → Stands before k e ⊎ ((k ≡ key) × (e ≡ edge))
  -- the table has as many places as before
  pub long : length after ≡ length before
