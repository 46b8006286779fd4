use Rattle.engine.proofs.Lawlike.{constants_inserted}
use Rattle.engine.proofs.theorems.constants_add_nothing.Goals as goal

pub returns : goal.returns
returns c = constants_inserted
