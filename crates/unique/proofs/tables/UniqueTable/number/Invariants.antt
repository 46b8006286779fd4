use Rattle.unique.proofs.Chained.{FoundFrom, up_to}
use Rattle.unique.proofs.tables.UniqueTable.number.Given as goal

-- the diamond is not found, or no later than at the next one of its chain
abbrev pub invariant-loop-next : goal.invariant-loop-next
invariant-loop-next l = FoundFrom l.self l.diamond l.next

abbrev pub decreases-loop-next : goal.decreases-loop-next
decreases-loop-next l = up_to l.next
