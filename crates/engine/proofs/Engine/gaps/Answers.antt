use Rattle.std.proofs.Common.{sym}
use Rattle.tick_context.proofs.Seen.{gap-not-quiet, flip}
use Rattle.engine.proofs.Engine.gaps.Goals as goal

pub returns-then-active : goal.returns-then-active
returns-then-active g c = record {
  gap = λ past k on a. sym (gap-not-quiet past c.args.phase (flip _ _ _ c.if-active.true a));
}

pub returns-else-active : goal.returns-else-active
returns-else-active g c = record {
  gap = λ past k on a. c.has_gap.ensures.gap past k.memory k.context on (flip _ _ _ c.if-active.false a);
}
