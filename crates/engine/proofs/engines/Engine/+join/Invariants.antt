use Rattle.engine.proofs.engines.Engine.+join.Given as goal

abbrev pub decreases-join : goal.decreases-join
decreases-join g l = l.n
