use Rattle.std.proofs.Common.{◌≡◌, ◌<◌, ◌%◌, sum, take}
use Rattle.band_report.proofs.arcs.round_cycle.Given as goal

abbrev pub invariant-loop-leg : goal.invariant-loop-leg
invariant-loop-leg l = record {
  few : l.total < l.cycle;
  is : l.total ≡ sum (take l.leg-index l.legs) % l.cycle;
}
