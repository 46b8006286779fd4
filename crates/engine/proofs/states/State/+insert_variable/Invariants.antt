use Rattle.engine.proofs.states.State.+insert_variable.Given as goal

abbrev pub decreases-insert_variable : goal.decreases-insert_variable
decreases-insert_variable l = l.i
