use Rattle.trace_laws.proofs.Whole.{fronts-proper}
use Rattle.trace_laws.proofs.fronts_are_proper.Goals as goal

pub returns : goal.returns
returns c = fronts-proper c.lines_are_proper.ensures
