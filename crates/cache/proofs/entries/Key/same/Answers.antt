use Rattle.std.proofs.Common.{Bool, ◌&&◌, ◌∙◌, ap₂}
use Rattle.std.specs.Prelude.{◌==◌}
use Rattle.diagram.proofs.Compared.{edge_eq}
use Rattle.cache.proofs.entries.Key.same.Goals as goal

pub returns : goal.returns
returns c =
    let a = c.args.self in
    let b = c.args.other in
    c.eq.ensures ∙ ap₂ (λ (l r : Bool). a.connective == b.connective && (l && r)) (edge_eq a.left b.left) (edge_eq a.right b.right)
