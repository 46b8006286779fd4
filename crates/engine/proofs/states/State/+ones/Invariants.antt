use Rattle.engine.proofs.states.State.+ones.Given as goal

abbrev pub decreases-ones : goal.decreases-ones
decreases-ones l = l.n
