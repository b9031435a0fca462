use Rattle.std.proofs.Common.{sym, ◌∙◌}
use Rattle.tick_context.proofs.Binds.{target-some, target-none}
use Rattle.tick_context.proofs.context.TickContext.target.Goals as goal

pub returns-then-has_pattern : goal.returns-then-has_pattern
returns-then-has_pattern c = record {
  target = λ past k b.
      target-some c.args.self.now.active_pattern past.tables c.args.mode c.args.clock c.target.result (sym c.has_pattern.ensures ∙ c.if-has_pattern.true) b
      (c.target.ensures.target past.tables);
  below = c.target.ensures.below;
}

pub returns-else-has_pattern-clause-target : goal.returns-else-has_pattern-clause-target
returns-else-has_pattern-clause-target c = λ past k b.
    target-none past.tables c.args.mode c.args.clock (sym c.has_pattern.ensures ∙ c.if-has_pattern.false)
