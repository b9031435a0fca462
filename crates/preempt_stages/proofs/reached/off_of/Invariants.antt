use Rattle.std.proofs.Common.{◌≡◌, ◌<◌, ◌≤◌, ◌==◌, ◌&&◌, ℕ, false, not, get_or}
use Rattle.sig_types.specs.PhaseSet.{has}
use Rattle.preempt_stages.proofs.reached.off_of.Given as goal

abbrev pub invariant-loop-phase : goal.invariant-loop-phase
invariant-loop-phase l = record {
  below : (q : ℕ) → 0 < q → q < l.phase → has l.off q ≡ (not (get_or l.on 0 0 == q) && not (get_or l.on 1 0 == q));
  above : (q : ℕ) → l.phase ≤ q → q ≤ 16 → has l.off q ≡ false;
}
