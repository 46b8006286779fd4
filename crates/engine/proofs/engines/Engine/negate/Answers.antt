use Rattle.std.proofs.Common.{◌≡◌, Ok, Err, sym, ap, ◌∙◌}
use Rattle.std.proofs.lemmas.Result.{err_from_is_err_and}
use Rattle.engine.specs.Steps.{Outcome, negate_step}
use Rattle.engine.proofs.Lawlike.{state_well}
use Rattle.engine.proofs.Mapped.{answered_ok, answered_err, not_first_step, opposite_step, negated_made}
use Rattle.engine.proofs.engines.Engine.negate.Given.{Over}
use Rattle.engine.proofs.engines.Engine.negate.Goals.{After-opposite, In_ok-combined}
use Rattle.engine.proofs.engines.Engine.negate.Goals as goal

-- where the dialect negates

marked : (g : Over) (c : After-opposite g) →
    (c.opposite.result ≡ (negate_step c.args.self.now.state.profile.meaning c.args.self.now.state.diamonds c.args.edge).0)
    × (c.args.self.now.state.diamonds ≡ (negate_step c.args.self.now.state.profile.meaning c.args.self.now.state.diamonds c.args.edge).1)
marked g c =
    let s = c.args.self.now.state in
    let o = opposite_step s.profile.meaning s.diamonds (state_well s) c.args.edge (sym c.if-negates.ensures) in
    (c.opposite.ensures ∙ ap (λ (z : Outcome). z.0) (sym o), ap (λ (z : Outcome). z.1) (sym o))

pub returns-then-negates-clause-answer : goal.returns-then-negates-clause-answer
returns-then-negates-clause-answer g c = (marked g (goal.at.returns-then-negates-clause-answer g c).After-opposite).0

pub returns-then-negates-clause-diamonds : goal.returns-then-negates-clause-diamonds
returns-then-negates-clause-diamonds g c = (marked g (goal.at.returns-then-negates-clause-diamonds g c).After-opposite).1

pub returns-then-negates-clause-right : goal.returns-then-negates-clause-right
returns-then-negates-clause-right g c =
    let s = c.args.self.now.state in
    let o = marked g (goal.at.returns-then-negates-clause-right g c).After-opposite in
    negated_made s.profile.meaning s.diamonds (state_well s) c.args.edge c.opposite.result s.diamonds o.0 o.1

-- where it combines

pub returns-in_err-combined-clause-answer : goal.returns-in_err-combined-clause-answer
returns-in_err-combined-clause-answer g c =
    let s = c.args.self.now.state in
    let p = err_from_is_err_and c.from_residual.result c.from_residual.ensures.1 in
    p.1 ∙ ap Err p.2 ∙ sym (answered_err _ _ c.in_err-combined.field-0.0 c.in_err-combined.ensures.answer)
    ∙ ap (λ (z : Outcome). z.0) (not_first_step s.profile.meaning s.diamonds (state_well s) c.args.edge)

pub returns-in_err-combined-clause-diamonds : goal.returns-in_err-combined-clause-diamonds
returns-in_err-combined-clause-diamonds g c =
    let s = c.args.self.now.state in
    rw (not_first_step s.profile.meaning s.diamonds (state_well s) c.args.edge) at c.in_err-combined.ensures.diamonds

pub returns-in_err-combined-clause-map : goal.returns-in_err-combined-clause-map
returns-in_err-combined-clause-map g c =
    let s = c.args.self.now.state in
    λ _. rw (not_first_step s.profile.meaning s.diamonds (state_well s) c.args.edge) at c.in_err-combined.ensures.map

made : (g : Over) (c : In_ok-combined g) →
    (Ok c.in_ok-combined.combined.edge ≡ (negate_step c.args.self.now.state.profile.meaning c.args.self.now.state.diamonds c.args.edge).0)
    × (c.combine.new.self.state.diamonds ≡ (negate_step c.args.self.now.state.profile.meaning c.args.self.now.state.diamonds c.args.edge).1)
made g c =
    let s = c.args.self.now.state in
    let n = not_first_step s.profile.meaning s.diamonds (state_well s) c.args.edge in (
      sym (answered_ok _ _ c.in_ok-combined.combined c.in_ok-combined.ensures.answer).0 ∙ ap (λ (z : Outcome). z.0) n,
      rw n at c.in_ok-combined.ensures.diamonds,
    )

pub returns-clause-answer : goal.returns-clause-answer
returns-clause-answer g c = (made g (goal.at.returns-clause-answer g c).In_ok-combined).0

pub returns-clause-diamonds : goal.returns-clause-diamonds
returns-clause-diamonds g c = (made g (goal.at.returns-clause-diamonds g c).In_ok-combined).1

pub returns-clause-right : goal.returns-clause-right
returns-clause-right g c =
    let s = c.args.self.now.state in
    let o = made g (goal.at.returns-clause-right g c).In_ok-combined in
    negated_made s.profile.meaning s.diamonds (state_well s) c.args.edge (Ok c.in_ok-combined.combined.edge) c.combine.new.self.state.diamonds o.0 o.1

pub returns-clause-map : goal.returns-clause-map
returns-clause-map g c =
    let s = c.args.self.now.state in
    λ _. rw (not_first_step s.profile.meaning s.diamonds (state_well s) c.args.edge) at c.in_ok-combined.ensures.map
