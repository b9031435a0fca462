use Rattle.overlap_run.proofs.Overlapping.{covered, apart}
use Rattle.overlap_run.proofs.coverage.overlaps_are_covered.Goals as goal

pub returns-clause-covered : goal.returns-clause-covered
returns-clause-covered c = covered

pub returns-clause-apart : goal.returns-clause-apart
returns-clause-apart c = apart
