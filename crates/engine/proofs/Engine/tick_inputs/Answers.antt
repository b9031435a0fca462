use Rattle.sig_tables.specs.Modes.{bound}
use Rattle.sig_tables.specs.Seen.{mode_seen, demand_seen}
use Rattle.call_store.proofs.Quiet.{quiet-is}
use Rattle.engine.proofs.Running.{runs-context}
use Rattle.engine.proofs.Engine.tick_inputs.Goals as goal

pub returns : goal.returns
returns g c = record {
  sees = λ past r.
      let options = c.options-options.ensures.options past (runs-context _ _ past r) in
      let demand = c.demand-demand.ensures.demand (bound (mode_seen past)) past r.keeps.context.calls r.keeps.context.layout options r.keeps.shown.red in
      record {
        demand = demand;
        quiet = quiet-is (bound (mode_seen past)) past c.active-active.result
            (c.active-active.ensures.active (bound (mode_seen past)) past r.keeps.context.calls r.keeps.context.layout options);
        opposed = c.opposed-opposed.ensures.opposed past (demand_seen past) r.keeps demand;
      };
}
