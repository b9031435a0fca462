use Rattle.std.proofs.Common.{ℕ, refl, ap, subst}
use Rattle.sig_tables.specs.declared.plan.Plan.{Plan}
use Rattle.sig_tables.specs.Layout.{Ordered}
use Rattle.tick_context.proofs.active_pattern.ActivePattern.of.Goals as goal

pub returns : goal.returns
returns c = record {
  is = record {
    plan = c.plan-plan.ensures;
    options = c.of.ensures.says;
    services = c.services.ensures;
    laid = c.of-2.ensures.laid;
    ordered = subst (λ (n : ℕ). Ordered c.of-2.result c.args.tables.now n) (ap (λ (x : Plan). x.sequence) c.plan-plan.ensures) c.of-2.ensures.ordered;
  };
  pattern = refl;
}
