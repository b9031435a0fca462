use Rattle.band_report.proofs.Reading.{Gathered}
use Rattle.band_report.proofs.signals.signals.Given as goal

abbrev pub invariant-loop-place : goal.invariant-loop-place
invariant-loop-place l = Gathered l.section l.pattern l.inbound l.s.cabinets.items l.found.items l.place
