use Rattle.std.proofs.Common.{◌≡◌, ◌&&◌, ℕ, Option, None, sym, ◌∙◌, ap}
use Rattle.std.proofs.Math.Bool.{and-true}
use Rattle.sig_types.specs.PhaseSet.{has}
use Rattle.sig_types.specs.declared.frame.Mode.TheVariants.{Coord}
use Rattle.sig_tables.specs.Modes.{bound}
use Rattle.sig_tables.specs.Coordinating.{has_room}
use Rattle.sig_tables.specs.TickState.{tick_state_of}
use Rattle.sig_tables.specs.Seen.{mode_seen}
use Rattle.tick_context.proofs.Binds.{in-coord, unbound}
use Rattle.tick_context.proofs.Running.{coord-of, active_pattern-in}
use Rattle.tick_context.proofs.context.TickContext.with_room.Goals as goal

pub returns-then-is_coord : goal.returns-then-is_coord
returns-then-is_coord c = record {
  room = λ past r p h.
      let (n, e) = in-coord (mode_seen past) (coord-of c.args.self.now c.args.tick_state.now past _ _ r c.is_coord.ensures c.if-is_coord.true) in
      c.with_room.ensures.room past.tables n (active_pattern-in c.args.self.now c.args.tick_state.now past n r e) p h
      ∙ ap (λ (k : ℕ). has c.args.among p && has_room (bound (Coord n)) past.tables k c.args.after p) r.tick_state.counter
      ∙ ap (λ (m : Option ℕ). has c.args.among p && has_room m past.tables (tick_state_of past).counter c.args.after p) (sym (ap bound e));
}

pub returns-else-is_coord : goal.returns-else-is_coord
returns-else-is_coord c = record {
  room = λ past r p h.
      let e : bound (mode_seen past) ≡ None = unbound (mode_seen past)
      (coord-of c.args.self.now c.args.tick_state.now past _ _ r c.is_coord.ensures c.if-is_coord.false) in
      sym (and-true (has c.args.among p))
      ∙ ap (λ (m : Option ℕ). has c.args.among p && has_room m past.tables (tick_state_of past).counter c.args.after p) (sym e);
}
