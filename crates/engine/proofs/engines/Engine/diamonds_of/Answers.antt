use Rattle.std.proofs.Common.{Ok, ap, ◌∙◌}
use Rattle.engine.proofs.Lawlike.{state_well}
use Rattle.engine.proofs.Counted.{diamonds_told}
use Rattle.engine.proofs.Marks.{passed, refused_at}
use Rattle.engine.proofs.engines.Engine.diamonds_of.Goals as goal

pub returns-in_err-checked : goal.returns-in_err-checked
returns-in_err-checked g c = refused_at _ _ _ _ _ _ c.in_err-checked.ensures c.from_residual.ensures.1

pub returns : goal.returns
returns g c =
    let s = c.args.self.now.state in
    let ds = s.diamonds in
    let a = passed _ _ _ _ c.in_ok-checked.ensures in
    ap Ok c.reached.ensures ∙ diamonds_told s.profile.meaning ds (state_well s) c.args.edge a.0
