use Rattle.std.proofs.Common.{◌-◌, ◌≤◌, length}
use Rattle.detector_bank.specs.Watching.{Before}
use Rattle.detector_bank.proofs.pulses.place_at.Given as goal

-- those so far are below the number
abbrev pub invariant-loop-place : goal.invariant-loop-place
invariant-loop-place l = record {
  within : l.place ≤ length l.sorted;
  front : l.from ≤ length l.sorted → l.from ≤ l.place;
  before : Before l.sorted l.from l.number → Before l.sorted l.place l.number;
}

abbrev pub decreases-loop-place : goal.decreases-loop-place
decreases-loop-place l = length l.sorted - l.place
