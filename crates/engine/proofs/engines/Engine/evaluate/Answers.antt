use Rattle.std.proofs.Common.{sym, refl}
use Rattle.engine.proofs.Halved.{marks_most}
use Rattle.engine.proofs.Marks.{passed, refused_at}
use Rattle.engine.proofs.engines.Engine.evaluate.Goals as goal

pub returns-in_err-n : goal.returns-in_err-n
returns-in_err-n g c = refused_at _ _ _ _ _ _ c.in_err-n.ensures c.from_residual.ensures.1

pub assignments-requires : goal.assignments-requires
assignments-requires g c =
    let s = c.args.self.now.state in
    let ds = s.diamonds in
    let a = passed _ _ _ _ c.in_ok-n.ensures in
    marks_most s.profile.meaning ds ds c.args.edge c.in_ok-n.n refl (sym a.0) a.1
