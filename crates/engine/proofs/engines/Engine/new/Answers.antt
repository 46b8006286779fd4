use Rattle.std.proofs.Common.{◌≡◌, length, None, ap, ◌∙◌, arith, rules}
use lib.ListN.{length-replicate}
use Rattle.engine.proofs.Remembered.{nothing_stands}
use Rattle.engine.proofs.engines.Engine.new.Goals as goal

pub invariant_of-state : goal.invariant_of-state
invariant_of-state g c =
    let t = c.in_ok-table.table in
    let l : length c.forget.new.table ≡ length t = ap length c.forget.ensures.empty ∙ length-replicate (length t) None in
    let m : length t ≡ g.C.Cache.wants c.args.cache = ap length c.in_ok-table.ensures ∙ length-replicate c.places.result None ∙ c.places.ensures in
    let w = g.met.C.Cache.roomy c.args.cache in
    record {
      spelled = search rules;
      proper = search rules;
      low = search rules;
      few = search rules;
      wide = omega arith;
      right = λ k e h. absurd (nothing_stands (length t) c.forget.new.table c.forget.ensures.empty k e h);
    }
