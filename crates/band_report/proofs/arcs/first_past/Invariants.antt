use Rattle.std.proofs.Common.{◌≡◌, drop}
use Rattle.band_report.specs.Arcs.{first_past}
use Rattle.band_report.proofs.arcs.first_past.Given as goal

abbrev pub invariant-loop-place : goal.invariant-loop-place
invariant-loop-place l = first_past l.cycle l.arcs.items l.time ≡ first_past l.cycle (drop l.place l.arcs.items) l.time
