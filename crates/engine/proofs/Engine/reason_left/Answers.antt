use Rattle.std.proofs.Common.{◌≡◌, ℕ, not, Option, None, sym, ◌∙◌, ap, subst}
use Rattle.sig_types.specs.declared.frame.Mode.{Mode}
use Rattle.sig_types.specs.Phases.{is_in}
use Rattle.sig_tables.specs.Modes.{bound}
use Rattle.sig_tables.specs.Seen.{quiet_with}
use Rattle.tick_context.specs.Binds.{IsBound}
use Rattle.tick_context.specs.Lasting.{HasNoReason, opposed_with}
use Rattle.tick_context.proofs.Binds.{in-coord, unbound}
use Rattle.engine.proofs.Engine.reason_left.Goals as goal

pub returns-then-is_coord : goal.returns-then-is_coord
returns-then-is_coord g c = record {
  left = λ past k keeps b a o some within.
      let (n, e) = in-coord c.args.self.now.context.frame.mode (sym c.is_coord.ensures ∙ c.if-is_coord.true) in
      subst (λ (x : Option ℕ). HasNoReason x k past c.args.phase) (sym (ap bound e))
      (c.bound_left.ensures.left past n k keeps (subst (λ (m : Mode). IsBound c.args.self.now.context.active_pattern past.tables m) e b)
      (a ∙ ap (λ (x : Option ℕ). not (is_in (quiet_with x past) c.args.phase)) (ap bound e)) some within);
}

pub returns-else-is_coord : goal.returns-else-is_coord
returns-else-is_coord g c = record {
  left = λ past k keeps b a o some within.
      let e : bound c.args.self.now.context.frame.mode ≡ None = unbound c.args.self.now.context.frame.mode (sym c.is_coord.ensures ∙ c.if-is_coord.false) in
      subst (λ (x : Option ℕ). HasNoReason x k past c.args.phase) (sym e)
      (c.unbound_left.ensures.left past k keeps (a ∙ ap (λ (x : Option ℕ). not (is_in (quiet_with x past) c.args.phase)) e)
      (o ∙ ap (λ (x : Option ℕ). is_in (opposed_with x past) c.args.phase) e) some within);
}
