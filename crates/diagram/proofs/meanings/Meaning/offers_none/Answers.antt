use Rattle.std.proofs.Common.{rules, not, ◌&&◌}
use Rattle.std.proofs.iter.runs.Made.{chains}
use Rattle.diagram.specs.declared.letters.Letter.{Letter}
use Rattle.diagram.specs.Dialects.{has_letter, fits}
use Rattle.diagram.proofs.Tests.{letters_tested}
use Rattle.diagram.proofs.meanings.Meaning.offers_none.Goals as goal

pub returns : goal.returns
returns c =
    letters_tested (λ (d : Letter). not (has_letter c.args.self.now d && fits c.args.self.now d c.args.look)) c.all.result c.iter.result.rest.now c.iter.ensures.rest
    (search (rules, chains))
