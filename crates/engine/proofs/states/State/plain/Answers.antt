use Rattle.std.proofs.Common.{◌≡◌, sym, subst}
use Rattle.diagram.specs.Edges.{sign}
use Rattle.basics.specs.declared.plain.Plain.{Plain}
use Rattle.engine.specs.States.{KeyOfArity}
use Rattle.engine.proofs.Lawlike.{state_well}
use Rattle.engine.proofs.Halfwise.{joint_of}
use Rattle.engine.proofs.Plainly.{plain_fit, plain_means}
use Rattle.engine.proofs.states.State.plain.Goals as goal

pub returns-then-negates-clause-key : goal.returns-then-negates-clause-key
returns-then-negates-clause-key c =
    let s = c.args.self.now in
    subst (λ (r : Plain). KeyOfArity s.profile.meaning s.diamonds r.key c.args.n) (sym c.of.ensures) (plain_fit s.profile.meaning s.diamonds (state_well s) c.args.key c.args.n c.requires)

pub returns-then-negates-clause-rule : goal.returns-then-negates-clause-rule
returns-then-negates-clause-rule c =
    let s = c.args.self.now in
    subst (λ (r : Plain). joint_of s.diamonds c.args.key ≡ sign r.negated (joint_of s.diamonds r.key)) (sym c.of.ensures) (plain_means s.profile.meaning s.diamonds (state_well s) c.args.key c.args.n c.requires)
