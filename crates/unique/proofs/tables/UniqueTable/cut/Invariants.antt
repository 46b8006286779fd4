use Rattle.std.proofs.Common.{◌≡◌, length, take}
use Rattle.unique.proofs.tables.UniqueTable.cut.Given as goal

-- the first `count` diamonds are as they were
abbrev pub invariant-loop-self : goal.invariant-loop-self
invariant-loop-self l = take l.count l.self ≡ take l.count l.initial.self

abbrev pub decreases-loop-self : goal.decreases-loop-self
decreases-loop-self l = length l.self
