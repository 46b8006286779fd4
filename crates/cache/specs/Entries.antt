-- Keys compared, and what an entry says of a key.
use Rattle.std.specs.Prelude.{ℕ, Bool, cond, ◌&&◌, Some, None, Option, ◌==◌}
use Rattle.diagram.specs.declared.edges.Edge.{Edge}
use Rattle.diagram.specs.Records.{same_record}
use Rattle.cache.specs.declared.entries.Key.{Key}
use Rattle.cache.specs.declared.entries.Entry.{Entry}

-- the key of the connective c and the edges a and b
abbrev pub key : ℕ → Edge → Edge → Key
key c a b = record { connective = c; left = a; right = b }

-- the same connective, left edge and right edge
abbrev pub same_key : Key → Key → Bool
same_key a b = a.connective == b.connective && (same_record a.left b.left && same_record a.right b.right)

-- the edge that a place with this entry or none has for the key k: none if the entry is of another key
abbrev pub edge_for : Key → Option Entry → Option Edge
edge_for k None = None
edge_for k (Some x) = cond (same_key x.key k) (Some x.edge) None
