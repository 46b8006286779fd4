use Rattle.std.proofs.Common.{◌≡◌, IsErrAnd, Ok, Err, Result, sym, refl, ap, ◌∙◌, arith}
use Rattle.std.proofs.lemmas.Result.{err_from_is_err_and}
use Rattle.diagram.specs.declared.edges.Edge.{Edge}
use Rattle.diagram.specs.declared.refusals.Refusal.{Refusal}
use Rattle.engine.proofs.Halfwise.{joined_found, joined_right}
use Rattle.engine.proofs.Plainly.{low_refused, high_key, high_refused, fits, made, made_right}
use Rattle.engine.proofs.engines.Engine.+join.Goals as goal

-- a refusal that is handed on
handed : (r : Result Edge Refusal) (x : Refusal) → IsErrAnd r (λ y. y ≡ x) → r ≡ Err x
handed r x h = let p = err_from_is_err_and r h in p.1 ∙ ap Err p.2

pub returns-in-Some-clause-right : goal.returns-in-Some-clause-right
returns-in-Some-clause-right g t c = joined_right c.args.self.now.state c.args.key c.args.n c.requires c.in-Some.edge c.in-Some.ensures

pub returns-in-Some-find : goal.returns-in-Some-find
returns-in-Some-find g t c =
    let s = c.args.self.now in
    let right = s.state.right c.args.key c.in-Some-find.edge (g.met.C.Cache.honest s.cache s.state.table c.args.key c.in-Some-find.edge (sym c.in-Some-find.ensures.value)) in
    record { joined = joined_found s.state c.args.key c.args.n c.requires c.in-Some-find.edge right; right = right; profile = refl; long = refl }

pub returns-in_err-low-clause-joined : goal.returns-in_err-low-clause-joined
returns-in_err-low-clause-joined g t c =
    let x = c.in_err-low.field-0.0 in
    rw (handed c.from_residual.result x c.from_residual.ensures.1) (low_refused c.args.self.now.state c.requires c.halved.ensures x c.join.new.self.state.diamonds c.in_err-low.ensures.joined)

pub join-requires-2 : goal.join-requires-2
join-requires-2 g t c κs within =
    let low = c.in_ok-low.ensures in
    (omega arith, (within, high_key c.args.self.now.state c.requires c.halved.ensures c.join.new.self.state low.profile low.joined))

pub returns-in_err-high-clause-joined : goal.returns-in_err-high-clause-joined
returns-in_err-high-clause-joined g t c =
    let x = c.in_err-high.field-0.0 in
    let low = c.in_ok-low.ensures in
    rw (handed c.from_residual-in_err-high.result x c.from_residual-in_err-high.ensures.1)
    (high_refused c.args.self.now.state c.requires c.halved.ensures c.join.new.self.state low.profile low.joined x c.join-2.new.self.state.diamonds c.in_err-high.ensures.joined)

pub make-requires : goal.make-requires
make-requires g t c =
    let low = c.in_ok-low.ensures in
    let high = c.in_ok-high.ensures in
    rw (c.restore.ensures, c.restore-2.ensures)
    (fits c.args.self.now.state c.requires c.halved.ensures c.join.new.self.state low.profile low.joined c.join-2.new.self.state high.profile high.joined)

pub returns-in_err-edge-clause-joined : goal.returns-in_err-edge-clause-joined
returns-in_err-edge-clause-joined g t c =
    let x = c.in_err-edge.field-0.0 in
    let low = c.in_ok-low.ensures in
    let high = c.in_ok-high.ensures in
    rw (handed c.from_residual-in_err-edge.result x c.from_residual-in_err-edge.ensures.1)
    (made c.args.self.now.state c.requires c.halved.ensures c.join.new.self.state low.profile low.joined c.join-2.new.self.state high.profile high.joined (Err x) c.make.new.self.diamonds
    (rw (c.restore.ensures, c.restore-2.ensures) at c.in_err-edge.ensures.outcome))

pub note-requires : goal.note-requires
note-requires g t c =
    let low = c.in_ok-low.ensures in
    let high = c.in_ok-high.ensures in
    let last = c.in_ok-edge.ensures in
    made_right c.args.self.now.state c.requires c.halved.ensures c.join.new.self.state low.profile low.joined c.join-2.new.self.state high.profile high.joined c.make.new.self last.profile c.in_ok-edge.edge
    (rw (c.restore.ensures, c.restore-2.ensures) at last.outcome)

pub returns-clause-joined : goal.returns-clause-joined
returns-clause-joined g t c =
    let low = c.in_ok-low.ensures in
    let high = c.in_ok-high.ensures in
    rw c.note.ensures.state.0
    (made c.args.self.now.state c.requires c.halved.ensures c.join.new.self.state low.profile low.joined c.join-2.new.self.state high.profile high.joined (Ok c.in_ok-edge.edge) c.make.new.self.diamonds
    (rw (c.restore.ensures, c.restore-2.ensures) at c.in_ok-edge.ensures.outcome))

pub returns-clause-right : goal.returns-clause-right
returns-clause-right g t c =
    let low = c.in_ok-low.ensures in
    let high = c.in_ok-high.ensures in
    let last = c.in_ok-edge.ensures in
    rw (c.note.ensures.state.0, c.note.ensures.state.1)
    (made_right c.args.self.now.state c.requires c.halved.ensures c.join.new.self.state low.profile low.joined c.join-2.new.self.state high.profile high.joined c.make.new.self last.profile c.in_ok-edge.edge
    (rw (c.restore.ensures, c.restore-2.ensures) at last.outcome))
