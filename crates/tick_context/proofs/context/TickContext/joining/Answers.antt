use Rattle.std.proofs.Common.{◌&&◌, not, Bool, ◌∙◌, ap}
use Rattle.sig_types.specs.PhaseSet.{has}
use Rattle.sig_tables.specs.Tables.{has_dual_entry}
use Rattle.sig_tables.specs.Modes.{bound}
use Rattle.sig_tables.specs.Splits.{omits}
use Rattle.sig_tables.specs.Coordinating.{has_room}
use Rattle.sig_tables.specs.TickState.{tick_state_of}
use Rattle.sig_tables.specs.View.{is_startable}
use Rattle.sig_tables.specs.Seen.{mode_seen, view_seen}
use Rattle.sig_tables.proofs.Below.{is-within}
use Rattle.tick_context.proofs.Wanting.{joins}
use Rattle.tick_context.proofs.context.TickContext.joining.Goals as goal

pub returns : goal.returns
returns c = record {
  joining = λ past r s p h.
      joins (has c.minus.result p) (has c.with_room.result p) (has c.meet-able.result p) (omits (bound (mode_seen past)) past.tables p)
      (has_dual_entry past.tables p) (is_startable (view_seen past) p)
      (c.minus.ensures.has p (is-within p h) ∙ ap (λ (x : Bool). has c.with_room.result p && not x) (c.omitted.ensures.omitted past r p h))
      (has_room (bound (mode_seen past)) past.tables (tick_state_of past).counter 0 p)
      (c.with_room.ensures.room past r p h)
      (c.meet-able.ensures.has p ∙ ap (λ (x : Bool). x && has c.args.startable p) (r.context.layout.dual_entry p h)
      ∙ ap (λ (x : Bool). has_dual_entry past.tables p && x) (s p h));
}
