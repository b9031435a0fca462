use Rattle.trace_laws.proofs.Unique.{rounds-are-fronts}
use Rattle.trace_laws.proofs.rounds_are_fronts.Goals as goal

pub returns : goal.returns
returns c = rounds-are-fronts
