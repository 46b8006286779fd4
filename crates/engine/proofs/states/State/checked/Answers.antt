use Rattle.std.proofs.Common.{sym, arith}
use Rattle.engine.proofs.Halved.{marks_most}
use Rattle.engine.proofs.states.State.checked.Goals as goal

pub overflow_cast-result : goal.overflow_cast-result
overflow_cast-result c =
    let s = c.args.self.now in
    let l = marks_most s.profile.meaning s.diamonds c.as_slice.result.now c.args.edge c.arity.result (sym c.as_slice.ensures) c.if-not-accepts.ensures c.arity.ensures in
    omega arith
