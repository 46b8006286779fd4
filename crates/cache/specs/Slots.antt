-- The slot cache: the place of a key, and what it gives.
use Rattle.std.specs.Prelude.{ℕ, ◌+◌, length, None, Option, slice_index_or}
use Rattle.diagram.specs.declared.edges.Edge.{Edge}
use Rattle.diagram.specs.Records.{target_number}
use Rattle.cache.specs.declared.entries.Key.{Key}
use Rattle.cache.specs.declared.tables.Table.{Table}
use Rattle.cache.specs.Tables.{place_among}
use Rattle.cache.specs.Entries.{edge_for}

-- the connective and the numbers of the two targets, added
abbrev pub key_number : Key → ℕ
key_number k = k.connective + target_number k.left.target + target_number k.right.target

-- the place of the key k among n places: that of its number
abbrev pub slot_place : ℕ → Key → ℕ
slot_place n k = place_among n (key_number k)

-- the edge that the key's place in the table has for it
abbrev pub slot_held : Table → Key → Option Edge
slot_held t k = edge_for k (slice_index_or t (slot_place (length t) k) None)
