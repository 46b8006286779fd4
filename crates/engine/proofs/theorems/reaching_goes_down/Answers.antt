use Rattle.engine.proofs.Reached.{reaching_stepped}
use Rattle.engine.proofs.theorems.reaching_goes_down.Goals as goal

pub returns : goal.returns
returns c = reaching_stepped
