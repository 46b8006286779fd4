use Rattle.std.proofs.Common.{◌/◌, Bool, cond, ap, ◌∙◌, subst, arith}
use Rattle.diagram.specs.declared.edges.Edge.{Edge}
use Rattle.diagram.specs.Rules.{value}
use Rattle.diagram.specs.Edges.{rule_of}
use Rattle.diagram.specs.Records.{edge_of, store_of}
use Rattle.diagram.proofs.Tests.{tested}
use Rattle.engine.specs.States.{EdgeOfArity}
use Rattle.engine.proofs.Halved.{half_value, value_none}
use Rattle.engine.proofs.states.State.+value.Goals as goal

pub returns-then-n-eq0 : goal.returns-then-n-eq0
returns-then-n-eq0 t c =
    let s = c.args.self.now in
    let a = subst (EdgeOfArity s.profile.meaning s.diamonds c.args.edge) c.if-n-eq0.true c.requires in
    c.end_value.ensures ∙ value_none s.profile.meaning s.diamonds c.args.edge c.args.assignment a

pub returns : goal.returns
returns t c =
    let s = c.args.self.now in
    let D = s.profile.meaning in
    let ds = s.diamonds in
    let l = c.halves.result.0 in
    let h = c.halves.result.1 in
    c.value.ensures
    ∙ ap (λ (r : Edge). value (rule_of (store_of ds) (edge_of r)) (c.args.assignment / 2)) (c.pick-half.ensures ∙ ap (λ (b : Bool). cond b h l) c.first_mark.ensures)
    ∙ half_value D ((tested D).0 s.profile.sound) ds s.proper c.args.edge c.args.n c.requires (omega arith) l h c.args.assignment c.halves.ensures.low c.halves.ensures.high
