-- What a table holds.
use Rattle.std.specs.Prelude.{◌≡◌, ℕ, ◌%◌, cond, ◌==◌, List, Some, None, Option, slice_index_or}
use Rattle.diagram.specs.declared.edges.Edge.{Edge}
use Rattle.cache.specs.declared.entries.Key.{Key}
use Rattle.cache.specs.declared.entries.Entry.{Entry}

-- at some place stands the entry of the key k with the edge e
abbrev pub Stands : List (Option Entry) → Key → Edge → Type 0
Stands places k e = (i : ℕ) × (slice_index_or places i None ≡ Some (record { key = k; edge = e }))

-- the place of a number among n places: its remainder by n; 0 if there are none, where nothing stands
abbrev pub place_among : ℕ → ℕ → ℕ
place_among n x = cond (n == 0) 0 (x % n)
