use Rattle.std.proofs.Common.{◌≡◌, Bool, true, false, refl, ap, ◌∙◌}
use Rattle.diagram.specs.declared.edges.Edge.{Edge as EdgeRecord}
use Rattle.diagram.specs.Making.{flip_if}
use Rattle.diagram.specs.Records.{edge_of, spelled_edge}
use Rattle.diagram.proofs.Tests.{tested}
use Rattle.basics.specs.Plain.{turned}
use Rattle.engine.proofs.Halved.{halves_fit}
use Rattle.engine.proofs.states.State.halves.Goals as goal

turned_edge : (b : Bool) (e : EdgeRecord) → edge_of (turned b e) ≡ flip_if b (edge_of e)
turned_edge true e = refl
turned_edge false e = refl

turned_spelled : (b : Bool) (e : EdgeRecord) → spelled_edge (turned b e) ≡ spelled_edge e
turned_spelled true e = refl
turned_spelled false e = refl

pub returns-clause-edges : goal.returns-clause-edges
returns-clause-edges c =
    let s = c.args.self.now in
    let b = c.args.edge.negated in
    let u = c.upright_halves.ensures in
    let r = c.upright_halves.result in
    let l = c.turned.ensures in
    let h = c.turned-2.ensures in
    halves_fit s.profile.meaning ((tested s.profile.meaning).0 s.profile.sound) s.diamonds s.proper c.args.edge c.args.n c.requires.edge c.requires.some c.turned.result c.turned-2.result
    (ap spelled_edge l ∙ turned_spelled b r.0 ∙ u.spelled.0, ap spelled_edge h ∙ turned_spelled b r.1 ∙ u.spelled.1)
    (ap edge_of l ∙ turned_edge b r.0 ∙ ap (flip_if b) u.low) (ap edge_of h ∙ turned_edge b r.1 ∙ ap (flip_if b) u.high)
