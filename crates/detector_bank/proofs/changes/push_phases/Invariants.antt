use Rattle.std.proofs.Common.{◌≡◌, ℕ, ◌+◌, ◌≤◌, ◌++◌, List}
use Rattle.sig_types.specs.PhaseSet.{has}
use Rattle.detector_bank.specs.declared.bank.Detector.{Detector}
use Rattle.detector_bank.specs.declared.bank.Pulse.{Pulse}
use Rattle.detector_bank.specs.Bank.{called}
use Rattle.detector_bank.specs.Lists.{phase_changes}
use Rattle.detector_bank.proofs.changes.push_phases.Given as goal

-- the changes of the phases so far
abbrev pub invariant-loop-done : goal.invariant-loop-done
invariant-loop-done l =
    (ds : List Detector) (ps : List Pulse) (j : ℕ) → l.round ≡ j + 1 → ((p : ℕ) → 1 ≤ p → p ≤ 16 → has l.now p ≡ called ds ps l.cabinet p (j + 1))
    → ((p : ℕ) → 1 ≤ p → p ≤ 16 → has l.before p ≡ called ds ps l.cabinet p j) → l.calls.items ≡ l.fn.calls.items ++ phase_changes ds ps j l.cabinet l.done
