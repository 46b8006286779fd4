use Rattle.std.proofs.Common.{rules}
use Rattle.std.proofs.iter.runs.Made.{chains}
use Rattle.diagram.specs.Dialects.{right_look}
use Rattle.diagram.proofs.Tests.{looks_tested}
use Rattle.diagram.proofs.meanings.Meaning.right_looks.Goals as goal

pub returns : goal.returns
returns c = looks_tested (right_look c.args.self.now) c.all.result c.iter.result.rest.now c.iter.ensures.rest (search (rules, chains))
