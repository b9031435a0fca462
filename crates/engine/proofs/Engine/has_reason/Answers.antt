use Rattle.std.proofs.Common.{◌≡◌, ℕ, Option, None, sym, ◌∙◌, ap}
use Rattle.sig_tables.specs.Modes.{bound}
use Rattle.sig_tables.specs.View.{is_reasoned}
use Rattle.sig_tables.specs.Seen.{mode_seen, view_seen}
use Rattle.tick_context.specs.Modes.{is_coord}
use Rattle.tick_context.proofs.Binds.{in-coord, unbound}
use Rattle.engine.proofs.Engine.has_reason.Goals as goal

pub returns-then-is_coord : goal.returns-then-is_coord
returns-then-is_coord g c = record {
  reason = λ past r on green a o.
      let (n, e) = in-coord (mode_seen past) (sym (c.is_coord.ensures ∙ ap is_coord r.tick_state.mode) ∙ c.if-is_coord.true) in
      c.bound_reason.ensures.reason past n r e on green a
      ∙ ap (λ (m : Option ℕ). is_reasoned m (view_seen past) c.args.phase) (sym (ap bound e));
}

pub returns-else-is_coord : goal.returns-else-is_coord
returns-else-is_coord g c = record {
  reason = λ past r on green a o.
      let e : bound (mode_seen past) ≡ None = unbound (mode_seen past) (sym (c.is_coord.ensures ∙ ap is_coord r.tick_state.mode) ∙ c.if-is_coord.false) in
      c.free_reason.ensures.reason past r.keeps on a o
      ∙ ap (λ (m : Option ℕ). is_reasoned m (view_seen past) c.args.phase) (sym e);
}
