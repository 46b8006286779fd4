-- The shy cache: where a key's entry stands, and what the cache gives.
use Rattle.std.specs.Prelude.{ℕ, ◌+◌, cond, length, None, Option, slice_index_or}
use Rattle.diagram.specs.declared.edges.Edge.{Edge}
use Rattle.cache.specs.declared.entries.Key.{Key}
use Rattle.cache.specs.declared.tables.Table.{Table}
use Rattle.cache.specs.Tables.{place_among}
use Rattle.cache.specs.Entries.{edge_for}
use Rattle.shy.specs.declared.shy.Shy.{Shy}

-- the connective and the lengths of the two edges, added
abbrev pub key_lengths : Key → ℕ
key_lengths k = k.connective + k.left.word.length + k.right.word.length

-- the place of the key k among n places: that of its lengths
abbrev pub shy_place : ℕ → Key → ℕ
shy_place n k = place_among n (key_lengths k)

-- nothing while the cache is shut; else the edge that the key's place in the table has for it
abbrev pub shy_held : Shy → Table → Key → Option Edge
shy_held c t k = cond c.shut None (edge_for k (slice_index_or t (shy_place (length t) k) None))
