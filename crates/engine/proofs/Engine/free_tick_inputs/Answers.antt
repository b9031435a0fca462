use Rattle.std.proofs.Common.{◌≡◌, None, sym, ◌∙◌, ap}
use Rattle.sig_types.specs.declared.frame.Mode.{Mode}
use Rattle.sig_types.specs.Phases.{is_in}
use Rattle.sig_types.specs.PhaseSet.{phases_of}
use Rattle.sig_tables.specs.Modes.{bound}
use Rattle.sig_tables.specs.Seen.{demand_seen, demand_with, quiet_with}
use Rattle.engine.proofs.Engine.free_tick_inputs.Goals as goal

pub returns : goal.returns
returns g c = record {
  sees = λ past k mode d.
      let demand : phases_of c.args.demand ≡ demand_seen past = d ∙ sym (ap (λ (m : Mode). demand_with (bound m) past) mode) in
      record {
        demand = demand;
        quiet = λ p h. ap (λ (m : Mode). is_in (quiet_with (bound m) past) p) mode ∙ c.active.ensures.quiet None past k.context.calls k.context.layout tt p h;
        opposed = c.opposed.ensures.opposed past (demand_seen past) k demand;
      };
}
