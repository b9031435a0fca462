use Rattle.std.proofs.Common.{◌-◌, ◌≤◌, length}
use Rattle.std.specs.List.Sorted.{IsNonDecreasingBy}
use Rattle.detector_bank.specs.Watching.{key, Before}
use Rattle.detector_bank.proofs.pulses.first_at.Given as goal

-- those before the first place are below the number
abbrev pub invariant-loop-low : goal.invariant-loop-low
invariant-loop-low l = record {
  order : l.low ≤ l.high;
  within : l.high ≤ length l.sorted;
  before : IsNonDecreasingBy key l.sorted → Before l.sorted l.low l.number;
}

abbrev pub decreases-loop-low : goal.decreases-loop-low
decreases-loop-low l = l.high - l.low
