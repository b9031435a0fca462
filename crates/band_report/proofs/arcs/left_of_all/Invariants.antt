use Rattle.std.proofs.Common.{◌≡◌, ◌≤◌, min, drop}
use Rattle.band_report.specs.Arcs.{left_of_all}
use Rattle.band_report.proofs.arcs.left_of_all.Given as goal

abbrev pub invariant-loop-place : goal.invariant-loop-place
invariant-loop-place l = record {
  few : l.least ≤ l.cycle;
  is : left_of_all l.cycle l.arcs.items l.time ≡ min l.least (left_of_all l.cycle (drop l.place l.arcs.items) l.time);
}
