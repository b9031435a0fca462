use Rattle.std.proofs.Common.{◌≡◌}
use Rattle.preempt_run.specs.PreemptsKeep.{step_count}
use Rattle.timing_cases.proofs.preempt_run_cases.mode_at.Given as goal

abbrev pub invariant-loop-before : goal.invariant-loop-before
invariant-loop-before l = step_count l.preempts ≡ l.before

abbrev pub invariant-loop-event : goal.invariant-loop-event
invariant-loop-event l = step_count l.preempts ≡ l.before
