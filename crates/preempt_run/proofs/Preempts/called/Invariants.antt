use Rattle.std.proofs.Common.{◌≡◌, ◌<◌, ℕ, false}
use Rattle.sig_tables.specs.Past.{Past}
use Rattle.sig_tables.specs.Preempts.{is_preempt_called}
use Rattle.preempt_stages.specs.Inputs.{preempts_seen}
use Rattle.preempt_run.specs.PreemptsKeep.{PreemptsStand}
use Rattle.preempt_run.proofs.Preempts.called.Given as goal

-- no preempt below the number is called
abbrev pub invariant-loop-number : goal.invariant-loop-number
invariant-loop-number l =
    (past : Past) → PreemptsStand l.self past → (k : ℕ) → 0 < k → k < l.number
    → is_preempt_called l.t (preempts_seen past) past.moments k ≡ false
