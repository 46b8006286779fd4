use Rattle.std.proofs.Common.{length, sym, subst}
use Rattle.diagram.specs.Records.{store_of}
use Rattle.diagram.proofs.Made.{shallow_met}
use Rattle.engine.specs.Laws.{HeldWell}
use Rattle.engine.proofs.Remembered.{nothing_stands}
use Rattle.engine.proofs.states.State.cut.Goals as goal

pub invariant_of-self : goal.invariant_of-self
invariant_of-self c =
    let s = c.args.self.now in
    let w = subst (HeldWell s.profile.meaning) (sym c.cut.ensures) c.requires.well in
    record {
      spelled = w.normal.1;
      proper = w.normal.0;
      low = shallow_met (store_of c.cut.new.self) w.shallow;
      few = w.few;
      wide = s.wide;
      right = λ k e h. absurd (nothing_stands (length s.table) s.table c.requires.empty k e h);
    }
