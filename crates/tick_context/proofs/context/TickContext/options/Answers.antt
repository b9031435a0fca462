use Rattle.std.proofs.Common.{ap}
use Rattle.sig_tables.specs.Modes.{bound}
use Rattle.sig_tables.specs.Seen.{mode_seen}
use Rattle.tick_context.proofs.Binds.{in-coord, unbound, options-some, options-none}
use Rattle.tick_context.proofs.Running.{coord-of, active_pattern-in}
use Rattle.tick_context.proofs.context.TickContext.options.Goals as goal

pub returns-then-is_coord : goal.returns-then-is_coord
returns-then-is_coord c = record {
  options = λ past r.
      let (n, e) = in-coord (mode_seen past) (coord-of c.args.self.now c.args.tick_state.now past _ _ r c.is_coord.ensures c.if-is_coord.true) in
      options-some (record { ref_ptr = c.args.self.ref_ptr; now = c.args.self.now.active_pattern.options }) past.tables n (bound (mode_seen past)) (ap bound e)
      (active_pattern-in c.args.self.now c.args.tick_state.now past n r e).options;
}

pub returns-else-is_coord : goal.returns-else-is_coord
returns-else-is_coord c = record {
  options = λ past r. options-none past.tables (bound (mode_seen past)) (unbound (mode_seen past)
      (coord-of c.args.self.now c.args.tick_state.now past _ _ r c.is_coord.ensures c.if-is_coord.false));
}
