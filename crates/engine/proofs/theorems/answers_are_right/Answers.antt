use Rattle.engine.proofs.Lawlike.{inserted_right}
use Rattle.engine.proofs.theorems.answers_are_right.Goals as goal

pub returns : goal.returns
returns c = inserted_right
