use Rattle.std.proofs.Common.{◌∙◌, ap}
use Rattle.sig_types.specs.declared.frame.Mode.{Mode}
use Rattle.sig_tables.specs.Choosing.{mode_reached}
use Rattle.sig_tables.specs.Seen.{mode_seen}
use Rattle.tick_context.proofs.Binds.{sought-phases}
use Rattle.tick_context.proofs.context.TickContext.mode_reached.Goals as goal

pub returns : goal.returns
returns c = record {
  reached = λ past r.
      c.reached.ensures past.tables (sought-phases c.args.self.now.active_pattern past.tables (mode_seen past) c.args.tick_state.now.mode r.bound r.tick_state.mode)
      ∙ ap (λ (m : Mode). mode_reached m past.tables c.args.veh.now) r.tick_state.mode;
}
