use Rattle.engine.proofs.states.State.+value.Given as goal

abbrev pub decreases-value : goal.decreases-value
decreases-value l = l.n
