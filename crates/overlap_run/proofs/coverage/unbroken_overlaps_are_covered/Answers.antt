use Rattle.overlap_run.proofs.Judged.{can-overlap}
use Rattle.overlap_run.proofs.Overlapping.{covered, apart}
use Rattle.overlap_run.proofs.coverage.unbroken_overlaps_are_covered.Goals as goal

pub returns-clause-can : goal.returns-clause-can
returns-clause-can c = can-overlap

pub returns-clause-covered : goal.returns-clause-covered
returns-clause-covered c = λ cab tables lines by_version parents trail yellow red is ok.
    covered _ parents _ _ (can-overlap cab tables lines by_version parents trail yellow red is ok)

pub returns-clause-apart : goal.returns-clause-apart
returns-clause-apart c = λ cab tables lines by_version parents trail yellow red is ok.
    apart _ parents _ _ (can-overlap cab tables lines by_version parents trail yellow red is ok)
