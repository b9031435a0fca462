use Rattle.trace_laws.proofs.Unique.{due-determined}
use Rattle.trace_laws.proofs.due_is_determined.Goals as goal

pub returns : goal.returns
returns c = due-determined
