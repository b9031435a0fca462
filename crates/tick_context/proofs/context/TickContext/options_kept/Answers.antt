use Rattle.std.proofs.Common.{sym, ◌∙◌, ap, subst}
use Rattle.sig_types.specs.declared.frame.Mode.{Mode}
use Rattle.sig_tables.specs.Modes.{bound}
use Rattle.tick_context.specs.Binds.{IsBound, ActivePatternIs}
use Rattle.tick_context.proofs.Binds.{in-coord, unbound, options-some, options-none}
use Rattle.tick_context.proofs.context.TickContext.options_kept.Goals as goal

pub returns-then-is_coord : goal.returns-then-is_coord
returns-then-is_coord c = record {
  options = λ past b.
      let (n, e) = in-coord c.args.self.now.frame.mode (sym c.is_coord.ensures ∙ c.if-is_coord.true) in
      let is : ActivePatternIs c.args.self.now.active_pattern past.tables n = subst (λ (m : Mode). IsBound c.args.self.now.active_pattern past.tables m) e b in
      options-some (record { ref_ptr = c.args.self.ref_ptr; now = c.args.self.now.active_pattern.options }) past.tables n (bound c.args.self.now.frame.mode)
      (ap bound e) is.options;
}

pub returns-else-is_coord : goal.returns-else-is_coord
returns-else-is_coord c = record {
  options = λ past b.
      options-none past.tables (bound c.args.self.now.frame.mode) (unbound c.args.self.now.frame.mode (sym c.is_coord.ensures ∙ c.if-is_coord.false));
}
