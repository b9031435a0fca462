use Rattle.std.proofs.Common.{ℕ, Option, inl, inr, sym, ◌∙◌, ap, subst}
use Rattle.sig_types.specs.declared.frame.Mode.{Mode}
use Rattle.sig_tables.specs.Modes.{bound}
use Rattle.sig_tables.proofs.Below.{phase-is}
use Rattle.tick_context.specs.Binds.{IsBound, ActivePatternIs}
use Rattle.tick_context.specs.Lasting.{StaysUnforced}
use Rattle.tick_context.proofs.Binds.{in-coord, unbound}
use Rattle.tick_context.proofs.context.TickContext.unforced_left.Goals as goal

pub returns-then-not-is_coord-clause-left : goal.returns-then-not-is_coord-clause-left
returns-then-not-is_coord-clause-left c = λ past k keeps b some within.
    subst (λ (x : Option ℕ). StaysUnforced x k past c.args.phase)
    (sym (unbound c.args.self.now.frame.mode (sym c.is_coord.ensures ∙ c.if-not-is_coord.true))) tt

pub returns-then-has-clause-left : goal.returns-then-has-clause-left
returns-then-has-clause-left c = λ past k keeps b some within.
    let (n, e) = in-coord c.args.self.now.frame.mode (sym c.is_coord.ensures ∙ c.if-not-is_coord.false) in
    let is : ActivePatternIs c.args.self.now.active_pattern past.tables n = subst (λ (m : Mode). IsBound c.args.self.now.active_pattern past.tables m) e b in
    let h = phase-is c.args.phase c.requires.above c.requires.within in
    subst (λ (x : Option ℕ). StaysUnforced x k past c.args.phase) (sym (ap bound e))
    (inl (sym (is.options.coordinated c.args.phase h) ∙ sym c.has.ensures.has ∙ c.if-has.true))

pub returns-else-has-clause-left : goal.returns-else-has-clause-left
returns-else-has-clause-left c = λ past k keeps b some within.
    let (n, e) = in-coord c.args.self.now.frame.mode (sym c.is_coord.ensures ∙ c.if-not-is_coord.false) in
    let is : ActivePatternIs c.args.self.now.active_pattern past.tables n = subst (λ (m : Mode). IsBound c.args.self.now.active_pattern past.tables m) e b in
    subst (λ (x : Option ℕ). StaysUnforced x k past c.args.phase) (sym (ap bound e))
    (inr (c.force_left.ensures.left past n k keeps is some within))
