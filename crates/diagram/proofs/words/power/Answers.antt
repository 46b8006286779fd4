use Rattle.std.proofs.Common.{arith}
use Rattle.diagram.proofs.Eights.{eight_le, eight_pos}
use Rattle.diagram.proofs.words.power.Goals as goal

pub pow-requires : goal.pow-requires
pow-requires c = omega (arith, eight_le c.args.n c.requires)

pub returns-clause-low : goal.returns-clause-low
returns-clause-low c = omega (arith, eight_pos c.args.n, c.pow.ensures)

pub returns-clause-high : goal.returns-clause-high
returns-clause-high c = omega (arith, eight_le c.args.n c.requires, c.pow.ensures)
