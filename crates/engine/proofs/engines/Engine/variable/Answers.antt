use Rattle.engine.proofs.Marks.{passed}
use Rattle.engine.proofs.Lawlike.{state_well, variable_right}
use Rattle.engine.proofs.engines.Engine.variable.Goals as goal

pub returns-else-is_err-clause-right : goal.returns-else-is_err-clause-right
returns-else-is_err-clause-right g c =
    let s = c.args.self.now.state in
    variable_right s.profile.meaning s.diamonds (state_well s) c.args.arity c.args.i _ _ c.insert_variable-edge.result c.insert_variable-edge.new.self.diamonds
    (passed _ _ _ _ c.in_ok-n.ensures) (passed _ _ _ _ c.in_ok-i.ensures) c.insert_variable-edge.ensures.outcome
