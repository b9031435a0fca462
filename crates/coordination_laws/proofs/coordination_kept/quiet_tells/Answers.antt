use Rattle.coordination_laws.proofs.Telling.{goes-on, target-later}
use Rattle.coordination_laws.proofs.coordination_kept.quiet_tells.Goals as goal

pub returns-clause-goes_on : goal.returns-clause-goes_on
returns-clause-goes_on c = goes-on

pub returns-clause-later : goal.returns-clause-later
returns-clause-later c = target-later
