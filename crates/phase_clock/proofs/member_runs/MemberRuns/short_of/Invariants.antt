use Rattle.std.proofs.Common.{◌≡◌, ◌<◌, ◌≤◌, ℕ, false, not, nat_le}
use Rattle.sig_types.specs.PhaseSet.{has}
use Rattle.phase_clock.specs.MemberRuns.{count_of}
use Rattle.phase_clock.proofs.member_runs.MemberRuns.short_of.Given as goal

abbrev pub invariant-loop-number : goal.invariant-loop-number
invariant-loop-number l = record {
  below : (q : ℕ) → 0 < q → q < l.number → has l.short q ≡ not (nat_le l.steps (count_of l.self l.last q));
  above : (q : ℕ) → l.number ≤ q → q ≤ 16 → has l.short q ≡ false;
}
