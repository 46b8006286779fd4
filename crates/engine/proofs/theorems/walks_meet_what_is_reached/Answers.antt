use Rattle.engine.proofs.Reached.{walks_meet}
use Rattle.engine.proofs.theorems.walks_meet_what_is_reached.Goals as goal

pub returns : goal.returns
returns c = walks_meet
