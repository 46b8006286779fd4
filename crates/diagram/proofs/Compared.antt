-- `==` of edges and of diamonds is the test of its type.
use Rattle.std.proofs.Common.{◌≡◌, Bool, true, false, ◌&&◌, refl, ap, ◌∙◌, ap₂}
use Rattle.std.specs.Prelude.{◌==◌}
use Rattle.std.specs.Bool.{beq}
use Rattle.diagram.specs.declared.edges.Target.{Target}
use Rattle.diagram.specs.declared.edges.Target.TheVariants.{Zero, One, Diamond as DiamondNumber}
use Rattle.diagram.specs.declared.edges.Edge.{Edge}
use Rattle.diagram.specs.declared.edges.Diamond.{Diamond}
use Rattle.diagram.specs.Records.{same_target_record, same_record, same_diamond_record}
use Rattle.diagram.specs.contracts.edges.TargetPartialEq.TheImpl as target
use Rattle.diagram.specs.contracts.edges.EdgePartialEq.TheImpl as edge
use Rattle.diagram.specs.contracts.edges.DiamondPartialEq.TheImpl as diamond

target_eq : (a b : Target) → target.ghosts.eq a b ≡ same_target_record a b
target_eq Zero Zero = refl
target_eq Zero One = refl
target_eq Zero (DiamondNumber k) = refl
target_eq One Zero = refl
target_eq One One = refl
target_eq One (DiamondNumber k) = refl
target_eq (DiamondNumber j) Zero = refl
target_eq (DiamondNumber j) One = refl
target_eq (DiamondNumber j) (DiamondNumber k) = refl

-- the word, which stands first in memory, is compared before the mark
mark_first : (n l d t : Bool) → ((l && d) && (n && t)) ≡ (n && (l && (d && t)))
mark_first true true true t = refl
mark_first true true false t = refl
mark_first true false d t = refl
mark_first false true true t = refl
mark_first false true false t = refl
mark_first false false d t = refl

pub edge_eq : (a b : Edge) → edge.ghosts.eq a b ≡ same_record a b
edge_eq a b =
    ap (λ (t : Bool). (a.word.length == b.word.length && a.word.digits == b.word.digits) && (beq a.negated b.negated && t)) (target_eq a.target b.target)
    ∙ mark_first (beq a.negated b.negated) (a.word.length == b.word.length) (a.word.digits == b.word.digits) (same_target_record a.target b.target)

pub diamond_eq : (a b : Diamond) → diamond.ghosts.eq a b ≡ same_diamond_record a b
diamond_eq a b = ap₂ ◌&&◌ (edge_eq a.low b.low) (edge_eq a.high b.high)
