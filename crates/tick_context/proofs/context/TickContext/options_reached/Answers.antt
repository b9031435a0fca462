use Rattle.std.proofs.Common.{refl, sym, ◌∙◌}
use Rattle.sig_tables.specs.Seen.{mode_seen}
use Rattle.tick_context.proofs.Binds.{says-some, says-none}
use Rattle.tick_context.proofs.context.TickContext.options_reached.Goals as goal

pub returns-then-is_coord : goal.returns-then-is_coord
returns-then-is_coord c = record {
  options = λ past veh b e. says-some (record { ref_ptr = c.args.self.ref_ptr; now = c.args.self.now.active_pattern.options }) past.tables
      (mode_seen past) c.args.mode veh c.args.self.now.active_pattern (sym c.is_coord.ensures ∙ c.if-is_coord.true) e b refl;
}

pub returns-else-is_coord : goal.returns-else-is_coord
returns-else-is_coord c = record {
  options = λ past veh b e. says-none past.tables c.args.mode (sym c.is_coord.ensures ∙ c.if-is_coord.false);
}
