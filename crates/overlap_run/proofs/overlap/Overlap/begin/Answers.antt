use Rattle.std.proofs.Common.{refl, sym, ◌∙◌, ap}
use Rattle.overlap_run.proofs.Stepping.{begun}
use Rattle.overlap_run.proofs.overlap.Overlap.begin.Goals as goal

pub returns-then-green : goal.returns-then-green
returns-then-green c = λ t greens s.
    rw c.if-green.true (begun _ t greens refl s.times (ap (λ x. x.trail) s.times) s.some (sym c.requires ∙ s.shown))
