use Rattle.std.proofs.Common.{inl}
use Rattle.tick_context.proofs.Seen.{flip}
use Rattle.engine.proofs.Engine.gap_left.Goals as goal

pub returns-then-active : goal.returns-then-active
returns-then-active g c = record {
  left = λ past o k keeps a some within. inl (flip _ _ _ c.if-active.true a);
}

pub returns-else-active : goal.returns-else-active
returns-else-active g c = record {
  left = λ past o k keeps a some within.
      c.gap_left.ensures.left past o k keeps.memory keeps.context some within;
}
