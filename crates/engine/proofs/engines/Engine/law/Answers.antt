use Rattle.engine.proofs.Lawlike.{state_well}
use Rattle.engine.proofs.Mapped.{remembers_state}
use Rattle.engine.proofs.engines.Engine.law.Goals as goal

pub returns : goal.returns
returns g c =
    let s = c.args.self.now in
    record {
      held = state_well s.state;
      map = remembers_state s.state (g.C.Cache.held s.cache s.state.table) (g.met.C.Cache.honest s.cache s.state.table);
    }
