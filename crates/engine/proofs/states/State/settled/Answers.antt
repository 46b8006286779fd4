use Rattle.std.proofs.Common.{ap, ◌∙◌}
use Rattle.diagram.specs.declared.meanings.Meaning.{Meaning}
use Rattle.basics.specs.Settled.{settled}
use Rattle.engine.proofs.Halfwise.{settled_joined}
use Rattle.engine.proofs.states.State.settled.Goals as goal

pub returns : goal.returns
returns c =
    settled_joined c.args.self.now c.args.key c.args.n c.requires c.settled.result (c.settled.ensures ∙ ap (λ (m : Meaning). settled m c.args.key c.args.n) c.meaning.ensures.value)
