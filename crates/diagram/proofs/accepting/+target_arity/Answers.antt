use Rattle.std.proofs.Common.{◌≡◌, ◌-◌, sym, arith}
use Rattle.diagram.proofs.Placed.{no_diamond, arity_step, arity_absent}
use Rattle.diagram.proofs.accepting.+target_arity.Goals as goal

pub returns-in-Diamond-clause-value : goal.returns-in-Diamond-clause-value
returns-in-Diamond-clause-value t c =
    let ds = c.args.diamonds.now in
    let k = c.in-Diamond.k in
    let z : k - 0 ≡ k = omega arith in
    let h = rw z at c.target_arity.ensures.value in
    let p = arity_step ds k no_diamond c.if-k-diamonds.true in
    rw c.in-Diamond.is (omega (arith, h, p))

pub returns-in_default-clause-value : goal.returns-in_default-clause-value
returns-in_default-clause-value t c = rw c.in-Diamond.is (sym (arity_absent c.args.diamonds.now c.in-Diamond.k c.if-k-diamonds.false))
