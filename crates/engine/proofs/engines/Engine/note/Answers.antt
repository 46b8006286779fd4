use Rattle.std.proofs.Common.{arith}
use Rattle.engine.proofs.Remembered.{noted_right}
use Rattle.engine.proofs.engines.Engine.note.Goals as goal

pub invariant_of-self : goal.invariant_of-self
invariant_of-self g c =
    let s = c.args.self.now.state in
    let n = c.note.ensures.noted in
    (s.spelled, (s.proper, (s.low, (s.few, (omega (arith, s.wide, n.long), (noted_right s n c.requires, tt))))))
