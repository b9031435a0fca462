use Rattle.std.proofs.Common.{◌≡◌, ℕ, sym, ◌∙◌, subst}
use Rattle.std.proofs.lemmas.Bool.Decides.{Decides-eqb}
use Rattle.sig_types.specs.declared.frame.Mode.{Mode}
use Rattle.tick_context.specs.Binds.{IsBound, ActivePatternIs}
use Rattle.tick_context.proofs.context.TickContext.is_bound.Goals as goal

pub returns-in-Free-clause-bound : goal.returns-in-Free-clause-bound
returns-in-Free-clause-bound c = λ past k t. subst (λ (m : Mode). IsBound c.args.self.now.active_pattern past.tables m) (sym c.in-Free.is) tt

pub returns-else-pattern-eq0-clause-bound : goal.returns-else-pattern-eq0-clause-bound
returns-else-pattern-eq0-clause-bound c = λ past k t.
    let same : c.in-Coord.pattern ≡ c.args.self.now.active_pattern.pattern = (Decides-eqb c.in-Coord.pattern c.args.self.now.active_pattern.pattern).0 t in
    subst (λ (m : Mode). IsBound c.args.self.now.active_pattern past.tables m) (sym c.in-Coord.is)
    (subst (λ (n : ℕ). ActivePatternIs c.args.self.now.active_pattern past.tables n) (sym same) (k.active_pattern (λ z. c.if-pattern-eq0.false (same ∙ z))))
