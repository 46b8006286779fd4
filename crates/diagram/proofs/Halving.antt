-- The halves of an accepted edge of some mark.
use Rattle.std.proofs.Common.{◌≡◌, ◌<◌, ◌⊎◌, ap, inl, inr, arith}
use Rattle.diagram.specs.Rules.{arity}
use Rattle.diagram.specs.Edges.{Edge, Store, rule_of}
use Rattle.diagram.specs.declared.meanings.Meaning.{Meaning}
use Rattle.diagram.proofs.Notions.{Halves, HalvesRight}
use Rattle.diagram.proofs.Split.{Leaf, split}

halves_at : (D : Meaning) (s : Store) (e : Edge) → 0 < arity (rule_of s e) → Leaf D s e ⊎ Halves D s e → Halves D s e
halves_at D s e i (inl x) = let p : arity (rule_of s e) ≡ 0 = ap arity x.rule in absurd (omega arith)
halves_at D s e i (inr x) = x

pub halves_right : HalvesRight
halves_right D law s ns e a i = halves_at D s e i (split D law s ns e a)
