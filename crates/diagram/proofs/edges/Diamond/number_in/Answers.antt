use Rattle.std.proofs.Common.{rules}
use Rattle.std.proofs.iter.runs.Made.{chains}
use Rattle.diagram.proofs.Placed.{number_last}
use Rattle.diagram.proofs.edges.Diamond.number_in.Goals as goal

pub returns : goal.returns
returns c = number_last c.args.diamonds.now c.args.self _ (search (rules, chains))
