use Rattle.sig_tables.specs.Modes.{bound}
use Rattle.sig_tables.specs.Seen.{demand_with}
use Rattle.engine.proofs.Engine.tick_inputs_kept.Goals as goal

pub returns : goal.returns
returns g c = record {
  looks = λ past k b.
      let options = c.options_kept-options.ensures.options past b in
      let demand =
      c.demand-demand.ensures.demand (bound c.args.self.now.context.frame.mode) past k.context.calls k.context.layout options k.shown.red in
      record {
        demand = demand;
        quiet = c.active-active.ensures.quiet (bound c.args.self.now.context.frame.mode) past k.context.calls k.context.layout options;
        opposed = c.opposed.ensures.opposed past (demand_with (bound c.args.self.now.context.frame.mode) past) k demand;
      };
}
