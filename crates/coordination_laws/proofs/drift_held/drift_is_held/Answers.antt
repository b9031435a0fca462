use Rattle.coordination_laws.proofs.Near.{meets-and-stays}
use Rattle.coordination_laws.proofs.drift_held.drift_is_held.Goals as goal

pub returns : goal.returns
returns c = meets-and-stays
