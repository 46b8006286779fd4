use Rattle.engine.proofs.Marks.{passed, refused_at}
use Rattle.engine.proofs.states.State.checked_pair.Goals as goal

pub returns-in_err-checked : goal.returns-in_err-checked
returns-in_err-checked c =
    let a = passed _ _ _ _ c.in_ok-n.ensures in
    simp a.0 (refused_at _ _ _ _ _ _ c.in_err-checked.ensures c.from_residual-in_err-checked.ensures.1)
