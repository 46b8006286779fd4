use Rattle.std.proofs.Common.{◌-◌, ◌<◌, ◌≤◌, length, take, sym, ap, ◌∙◌, arith}
use Rattle.std.proofs.lemmas.List.{take_all, take-take}
use Rattle.std.proofs.lemmas.Bool.{ltb-true, ltb-false}
use Rattle.unique.proofs.tables.UniqueTable.cut.Goals as goal

pub loop-self-preserved : goal.loop-self-preserved
loop-self-preserved c =
    let ds = c.loop-self.self in
    let n = c.args.count in
    let over : n < length ds = omega (arith, ltb-true n c.len.result (sym c.loop-self-test.ensures), c.len.ensures) in
    ap (take n) c.pop.ensures ∙ take-take n (length ds - 1) ds (omega arith) ∙ c.loop-self.invariant

pub returns : goal.returns
returns c =
    let ds = c.loop-self.self in
    let n = c.args.count in
    let all : length ds ≤ n = omega (arith, ltb-false n c.len.result (sym c.loop-self-test.ensures), c.len.ensures) in
    sym (take_all n ds all) ∙ c.loop-self.invariant
