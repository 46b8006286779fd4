-- Marks on the diamonds that were reached.
use Rattle.std.specs.Prelude.{ℕ, Bool, true, false, cond, List, length, nat_lt, slice_index_or, slice_set}
use Rattle.diagram.specs.Edges.{Target, terminal, diamond}

-- among the marks ms, one for each number of a diamond, that of the target is set; a terminal has none, nor has a number past the last
abbrev pub marked : List Bool → Target → List Bool
marked ms (terminal b) = ms
marked ms (diamond k) = cond (nat_lt k (length ms)) (slice_set ms k true) ms

-- how many marks that sets anew: one, unless it was set or there is none
abbrev pub newly : List Bool → Target → ℕ
newly ms (terminal b) = 0
newly ms (diamond k) = cond (nat_lt k (length ms)) (cond (slice_index_or ms k false) 0 1) 0
