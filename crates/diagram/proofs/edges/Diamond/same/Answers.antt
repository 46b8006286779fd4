use Rattle.std.proofs.Common.{◌∙◌}
use Rattle.diagram.proofs.Compared.{diamond_eq}
use Rattle.diagram.proofs.edges.Diamond.same.Goals as goal

pub returns : goal.returns
returns c = c.eq.ensures ∙ diamond_eq c.args.self c.args.other
