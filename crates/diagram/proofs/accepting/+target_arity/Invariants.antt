use Rattle.std.proofs.Common.{length}
use Rattle.diagram.proofs.accepting.+target_arity.Given as goal

abbrev pub decreases-target_arity : goal.decreases-target_arity
decreases-target_arity l = length l.diamonds.now
