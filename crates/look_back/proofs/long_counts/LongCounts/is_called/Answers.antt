use Rattle.std.proofs.Common.{refl, ◌∙◌}
use Rattle.look_back.proofs.long_counts.LongCounts.is_called.Goals as goal

pub returns : goal.returns
returns c = λ inputs past stands on.
    c.calls.ensures
    ∙ rw (
      c.has_been_on-delayed.ensures inputs past stands on,
      c.has_been_on-past.ensures inputs past stands on,
      c.is_configured.ensures,
      c.delay_time.ensures,
      c.presence_time.ensures,
      c.preempt-row.ensures.row,
      on,
    ) refl
