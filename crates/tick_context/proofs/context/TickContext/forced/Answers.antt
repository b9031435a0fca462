use Rattle.std.proofs.Common.{◌&&◌, ℕ, Bool, Option, Some, sym, ◌∙◌, ap}
use Rattle.sig_types.specs.declared.frame.Colour.TheVariants.{Green}
use Rattle.sig_types.specs.Colour.{same_colour, colour_of}
use Rattle.sig_types.specs.PhaseSet.{has}
use Rattle.sig_tables.specs.Tables.{is_enabled}
use Rattle.sig_tables.specs.Modes.{bound}
use Rattle.sig_tables.specs.Coordinating.{is_forced_off}
use Rattle.sig_tables.specs.TickState.{tick_state_of}
use Rattle.sig_tables.specs.Seen.{frame_seen, mode_seen, view_seen}
use Rattle.sig_tables.proofs.FreeTickState.{forced-unbound}
use Rattle.tick_context.proofs.Binds.{in-coord, unbound}
use Rattle.tick_context.proofs.Running.{coord-of, active_pattern-in}
use Rattle.tick_context.proofs.Wanting.{three}
use Rattle.tick_context.proofs.context.TickContext.forced.Goals as goal

pub returns-then-is_coord : goal.returns-then-is_coord
returns-then-is_coord c = record {
  forced = λ past r g p h.
      let (n, e) = in-coord (mode_seen past) (coord-of c.args.self.now c.args.tick_state.now past _ _ r c.is_coord.ensures c.if-is_coord.true) in
      three (has c.forced.result p) (has c.meet-green.result p) (is_enabled past.tables p) (same_colour (colour_of (frame_seen past) p) Green)
      (is_forced_off (bound (mode_seen past)) past.tables (tick_state_of past).counter p)
      (c.forced.ensures.forced past.tables n (active_pattern-in c.args.self.now c.args.tick_state.now past n r e) p h
      ∙ ap (λ (k : ℕ). has c.meet-green.result p && is_forced_off (Some n) past.tables k p) r.tick_state.counter
      ∙ ap (λ (m : Option ℕ). has c.meet-green.result p && is_forced_off m past.tables (tick_state_of past).counter p) (sym (ap bound e)))
      (c.meet-green.ensures.has p ∙ ap (λ (x : Bool). x && has c.args.green p) (r.context.layout.enabled p h)
      ∙ ap (λ (x : Bool). is_enabled past.tables p && x) (g p h));
}

pub returns-else-is_coord : goal.returns-else-is_coord
returns-else-is_coord c = record {
  forced = λ past r g p h.
      c.empty.ensures.has p
      ∙ sym (forced-unbound (view_seen past) p (unbound (mode_seen past)
      (coord-of c.args.self.now c.args.tick_state.now past _ _ r c.is_coord.ensures c.if-is_coord.false)));
}
