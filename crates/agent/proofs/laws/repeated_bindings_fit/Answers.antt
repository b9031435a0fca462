use Rattle.agent.proofs.Rooms.{repeated_fits}
use Rattle.agent.proofs.laws.repeated_bindings_fit.Goals as goal

pub returns : goal.returns
returns c = repeated_fits
