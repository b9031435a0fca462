use Rattle.band_report.specs.Arcs.{BestOf}
use Rattle.band_report.proofs.band.best_of.Given as goal

abbrev pub invariant-loop-place : goal.invariant-loop-place
invariant-loop-place l = BestOf l.cycle l.arcs.items l.place l.best.start l.best.width
