-- The index of a unique table: each diamond has a bucket, and the diamonds of one bucket are chained, the newest first.
use Rattle.std.specs.Prelude.{◌≡◌, ℕ, ◌+◌, ◌*◌, ◌%◌, ◌<◌, ◌≤◌, Bool, true, false, cond, List, [], ◌∷◌, ◌++◌, reverse, length, Some, None, Option, ◌==◌, vec_len, vec_capacity, slice_index_or}
use Rattle.diagram.specs.declared.edges.Edge.{Edge}
use Rattle.diagram.specs.declared.edges.Diamond.{Diamond}
use Rattle.diagram.specs.Records.{target_number}
use Rattle.unique.specs.declared.tables.UniqueTable.TheInside.{Inside}

-- Buckets --

-- an edge's mark as a number
abbrev pub mark_number : Bool → ℕ
mark_number true = 1013
mark_number false = 0

-- a number worked out from all parts of an edge
abbrev pub edge_number : Edge → ℕ
edge_number e = e.word.digits % 65521 + 31 * target_number e.target + 353 * e.word.length + mark_number e.negated

-- the bucket of a diamond: one of 2,039, a prime number, to spread diamonds whose edges differ little
abbrev pub bucket_of : Diamond → ℕ
bucket_of d = (edge_number d.low + 1260 * edge_number d.high) % 2039

-- Chains --

-- the number of the newest diamond in bucket b; the list has the newest first
abbrev pub newest_in : ℕ → List Diamond → Option ℕ
newest_in b [] = None
newest_in b (d ∷ s) = cond (bucket_of d == b) (Some (length s)) (newest_in b s)

-- for each diamond, the oldest first, the newest one before it in the same bucket
abbrev pub links_of : List Diamond → List (Option ℕ)
links_of [] = []
links_of (d ∷ s) = links_of s ++ (newest_in (bucket_of d) s ∷ [])

-- What is true of every table --

pub record IsIndexed (t : Inside) : Type 0 where
  -- at most 1,024 diamonds, and room for them and their links
  pub few : vec_len t.diamonds ≤ 1024
  pub room : 1024 ≤ vec_capacity t.diamonds
  pub spare : 1024 ≤ vec_capacity t.links
  -- a head for each of 2,039 buckets, and a link for each diamond
  pub wide : vec_len t.heads ≡ 2039
  pub level : vec_len t.links ≡ vec_len t.diamonds
  -- the heads and the links are those of the diamonds
  pub begun : (b : ℕ) → b < 2039 → slice_index_or t.heads.items b None ≡ newest_in b (reverse t.diamonds.items)
  pub chained : t.links.items ≡ links_of (reverse t.diamonds.items)
