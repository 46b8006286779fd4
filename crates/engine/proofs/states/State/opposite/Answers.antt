use Rattle.engine.proofs.Marks.{refused_at}
use Rattle.engine.proofs.states.State.opposite.Goals as goal

pub returns-in_err-checked : goal.returns-in_err-checked
returns-in_err-checked c = refused_at _ _ _ _ _ _ c.in_err-checked.ensures c.from_residual.ensures.1
