use Rattle.trace_laws.proofs.Either.{nothing-else}
use Rattle.trace_laws.proofs.nothing_is_between.Goals as goal

pub returns : goal.returns
returns c = nothing-else
