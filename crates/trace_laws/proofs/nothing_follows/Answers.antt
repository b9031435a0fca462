use Rattle.trace_laws.proofs.Unique.{nothing-follows}
use Rattle.trace_laws.proofs.nothing_follows.Goals as goal

pub returns : goal.returns
returns c = nothing-follows
