use Rattle.std.proofs.Common.{◌^◌, ◌<◌, arith}
use Rattle.diagram.proofs.Eights.{push_some}
use Rattle.diagram.proofs.edges.Word.push.Goals as goal

pub returns-clause-letters : goal.returns-clause-letters
returns-clause-letters c =
    let w = c.args.self in
    let l : w.digits < 8 ^ w.length = omega (arith, c.power-unit.ensures.value) in
    rw (c.power-unit.ensures.value, c.from.ensures) (push_some w.length w.digits c.args.letter l).0

pub returns-clause-rest : goal.returns-clause-rest
returns-clause-rest c =
    let w = c.args.self in
    let l : w.digits < 8 ^ w.length = omega (arith, c.power-unit.ensures.value) in
    rw (c.power-unit.ensures.value, c.from.ensures) (push_some w.length w.digits c.args.letter l).1
