use Rattle.std.proofs.Common.{◌≤◌, sym, arith}
use Rattle.diagram.proofs.Placed.{no_diamond}
use Rattle.unique.proofs.Chained.{up_to, found_start, found_here, found_next, link_less}
use Rattle.unique.proofs.tables.UniqueTable.number.Goals as goal

pub loop-next-init : goal.loop-next-init
loop-next-init c = rw c.head-next.ensures (found_start c.args.self.now c.args.diamond)

pub returns-then-is_at : goal.returns-then-is_at
returns-then-is_at c =
    let f = rw c.in-Some.is at c.loop-next.invariant in
    sym (found_here c.args.self.now c.args.diamond c.in-Some.k f (sym (c.if-is_at.ensures no_diamond)))

pub loop-next-smaller : goal.loop-next-smaller
loop-next-smaller c =
    let f = rw c.in-Some.is at c.loop-next.invariant in
    let l : up_to c.link-next.result ≤ c.in-Some.k = rw c.link-next.ensures (link_less c.args.self.now c.in-Some.k f.0) in
    rw c.in-Some.is (omega (arith, l))

pub loop-next-preserved : goal.loop-next-preserved
loop-next-preserved c =
    let f = rw c.in-Some.is at c.loop-next.invariant in
    rw c.link-next.ensures (found_next c.args.self.now c.args.diamond c.in-Some.k f (sym (c.if-is_at.ensures no_diamond)))
