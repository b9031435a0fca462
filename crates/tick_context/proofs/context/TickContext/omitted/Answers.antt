use Rattle.std.proofs.Common.{◌≡◌, ℕ, Option, None, sym, ◌∙◌, ap}
use Rattle.sig_tables.specs.Modes.{bound}
use Rattle.sig_tables.specs.Splits.{omits}
use Rattle.sig_tables.specs.Seen.{mode_seen}
use Rattle.tick_context.proofs.Binds.{in-coord, unbound}
use Rattle.tick_context.proofs.Running.{coord-of, active_pattern-in}
use Rattle.tick_context.proofs.context.TickContext.omitted.Goals as goal

pub returns-then-is_coord : goal.returns-then-is_coord
returns-then-is_coord c = record {
  omitted = λ past r p h.
      let (n, e) = in-coord (mode_seen past) (coord-of c.args.self.now c.args.tick_state.now past _ _ r c.is_coord.ensures c.if-is_coord.true) in
      (active_pattern-in c.args.self.now c.args.tick_state.now past n r e).options.omitted p h ∙ ap (λ (m : Option ℕ). omits m past.tables p) (sym (ap bound e));
}

pub returns-else-is_coord : goal.returns-else-is_coord
returns-else-is_coord c = record {
  omitted = λ past r p h.
      let e : bound (mode_seen past) ≡ None = unbound (mode_seen past)
      (coord-of c.args.self.now c.args.tick_state.now past _ _ r c.is_coord.ensures c.if-is_coord.false) in
      c.empty.ensures.has p ∙ ap (λ (m : Option ℕ). omits m past.tables p) (sym e);
}
