use Rattle.std.proofs.Common.{◌≡◌, ℕ, ◌+◌, ◌++◌, List}
use Rattle.detector_bank.specs.declared.bank.Detector.{Detector}
use Rattle.detector_bank.specs.declared.bank.Pulse.{Pulse}
use Rattle.detector_bank.specs.Watching.{AreCalled}
use Rattle.detector_bank.specs.Lists.{cabinet_changes}
use Rattle.detector_bank.proofs.changes.push_changes.Given as goal

-- the changes of the cabinets so far
abbrev pub invariant-loop-done : goal.invariant-loop-done
invariant-loop-done l =
    (ds : List Detector) (ps : List Pulse) (j : ℕ) → l.round ≡ j + 1 → AreCalled l.now ds ps (j + 1) → AreCalled l.before ds ps j
    → l.calls.items ≡ l.fn.calls.items ++ cabinet_changes ds ps j l.done
