use Rattle.std.proofs.Common.{◌≡◌, ◌<◌, ◌≤◌, ℕ, false}
use Rattle.sig_types.specs.Colour.{same_signal}
use Rattle.sig_types.specs.PhaseSet.{has}
use Rattle.look_back.specs.Shown.{signal_in}
use Rattle.look_back.proofs.shown.signalling.Given as goal

abbrev pub invariant-loop-p : goal.invariant-loop-p
invariant-loop-p l = record {
  below : (q : ℕ) → 0 < q → q ≤ l.p → has l.shown q ≡ same_signal (signal_in l.ped q) l.signal;
  above : (q : ℕ) → l.p < q → q ≤ 16 → has l.shown q ≡ false;
}
