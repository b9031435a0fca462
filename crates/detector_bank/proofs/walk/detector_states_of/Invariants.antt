use Rattle.std.proofs.Common.{◌≡◌, ℕ, ◌<◌, false, List, length, get_or}
use Rattle.detector_bank.specs.declared.bank.Detector.{Detector}
use Rattle.detector_bank.specs.declared.bank.Pulse.{Pulse}
use Rattle.detector_bank.specs.declared.detector_state.DetectorState.{DetectorState}
use Rattle.detector_bank.specs.Watching.{Sorts, Posted}
use Rattle.detector_bank.proofs.walk.detector_states_of.Given as goal

-- that many states were made
abbrev pub invariant-loop-k : goal.invariant-loop-k
invariant-loop-k l = record {
  count : length l.detector_states.items ≡ l.k;
  fresh : (ps : List Pulse) (k : ℕ) (p : DetectorState) (d : Detector) → Sorts l.sorted ps → k < length l.detector_states.items
      → Posted (get_or l.detector_states.items k p) 0 l.sorted (get_or l.bank.items k d) ps 0;
  none : (k : ℕ) (p : DetectorState) → k < length l.detector_states.items → (get_or l.detector_states.items k p).calls ≡ false;
}
