use Rattle.std.proofs.Common.{◌≡◌, ℕ, sym, subst}
use Rattle.sig_types.specs.declared.frame.Mode.{Mode}
use Rattle.sig_tables.specs.Layout.{Ordered}
use Rattle.sig_tables.specs.Modes.{sequence_in}
use Rattle.sig_tables.specs.Seen.{mode_seen}
use Rattle.tick_context.proofs.Binds.{in-coord, first-sequence}
use Rattle.tick_context.proofs.Running.{coord-of, active_pattern-in}
use Rattle.tick_context.proofs.context.TickContext.ordered_layout.Goals as goal

pub returns-then-is_coord : goal.returns-then-is_coord
returns-then-is_coord c = record {
  laid = λ past r.
      let (n, e) = in-coord (mode_seen past) (coord-of c.args.self.now c.args.tick_state.now past _ _ r c.is_coord.ensures c.if-is_coord.true) in
      (active_pattern-in c.args.self.now c.args.tick_state.now past n r e).laid;
  ordered = λ past r t.
      let (n, e) = in-coord (mode_seen past) (coord-of c.args.self.now c.args.tick_state.now past _ _ r c.is_coord.ensures c.if-is_coord.true) in
      subst (λ (m : Mode). Ordered c.args.self.now.active_pattern.layout past.tables (sequence_in past.tables m)) (sym e)
      (active_pattern-in c.args.self.now c.args.tick_state.now past n r e).ordered;
}

pub returns-else-is_coord : goal.returns-else-is_coord
returns-else-is_coord c = record {
  laid = λ past r. r.context.layout;
  ordered = λ past r t.
      let one : sequence_in past.tables (mode_seen past) ≡ 1 =
      first-sequence past.tables past.moments (mode_seen past) t
      (coord-of c.args.self.now c.args.tick_state.now past _ _ r c.is_coord.ensures c.if-is_coord.false) in
      subst (λ (n : ℕ). Ordered c.args.self.now.layout past.tables n) (sym one) r.context.ordered;
}
