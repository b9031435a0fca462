use Rattle.std.proofs.Common.{◌≡◌, ◌≤◌, List, length}
use Rattle.detector_bank.specs.declared.bank.Detector.{Detector}
use Rattle.detector_bank.specs.declared.bank.Pulse.{Pulse}
use Rattle.detector_bank.specs.Bank.{latest_edges}
use Rattle.detector_bank.specs.Watching.{Counts}
use Rattle.detector_bank.proofs.watch.Watch.latest.Given as goal

-- the edges of that many rounds were counted
abbrev pub invariant-loop-back : goal.invariant-loop-back
invariant-loop-back l = (d : Detector) (ps : List Pulse) → length ps ≤ 1000000 → Counts l.self d ps l.round → l.sum ≡ latest_edges d ps l.back l.round
