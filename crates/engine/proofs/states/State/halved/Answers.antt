use Rattle.std.proofs.Common.{ap₂, ◌∙◌}
use Rattle.diagram.specs.Rules.{◌⋆◌, pointwise, connective}
use Rattle.engine.proofs.Lawlike.{state_well}
use Rattle.engine.proofs.Halved.{halves_rule}
use Rattle.engine.proofs.states.State.halved.Goals as goal

pub returns : goal.returns
returns c =
    let s = c.args.self.now in
    let w = state_well s in
    let k = c.args.key in
    let i = c.requires.some in
    let x = c.halves.ensures in
    let y = c.halves-2.ensures in
    record {
      low_key = c.plain.ensures.key;
      high_key = c.plain-2.ensures.key;
      low_mark = c.plain.ensures.mark;
      high_mark = c.plain-2.ensures.mark;
      rule =
          ap₂ (pointwise (connective k.connective))
          (halves_rule s.profile.meaning w.lawful s.diamonds s.proper k.left c.args.n c.requires.key.left i c.halves.result.0 c.halves.result.1 x.low x.high)
          (halves_rule s.profile.meaning w.lawful s.diamonds s.proper k.right c.args.n c.requires.key.right i c.halves-2.result.0 c.halves-2.result.1 y.low y.high)
          ∙ ap₂ ◌⋆◌ c.plain.ensures.rule c.plain-2.ensures.rule;
    }
