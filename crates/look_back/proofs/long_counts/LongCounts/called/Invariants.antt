use Rattle.std.proofs.Common.{◌≡◌, ◌<◌, ◌≤◌, ℕ, false, List}
use Rattle.sig_types.specs.Phases.{is_in}
use Rattle.sig_types.specs.PhaseSet.{has}
use Rattle.sig_tables.specs.Past.{Moment}
use Rattle.sig_tables.specs.Preempts.{is_preempt_called}
use Rattle.look_back.specs.LongCounts.{LongCountsStands}
use Rattle.look_back.proofs.long_counts.LongCounts.called.Given as goal

-- no preempt below the number is called
abbrev pub invariant-loop-number : goal.invariant-loop-number
invariant-loop-number l =
    (inputs : List ℕ) (past : List Moment) → LongCountsStands l.self past → ((i : ℕ) → 0 < i → i ≤ 8 → has l.on i ≡ is_in inputs i)
    → (k : ℕ) → 0 < k → k < l.number → is_preempt_called l.t inputs past k ≡ false
