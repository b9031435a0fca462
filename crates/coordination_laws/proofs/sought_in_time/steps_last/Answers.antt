use Rattle.coordination_laws.proofs.Stepping.{pickup-in-time, runs-in-time, zero-green}
use Rattle.coordination_laws.proofs.sought_in_time.steps_last.Goals as goal

pub returns-clause-pickup : goal.returns-clause-pickup
returns-clause-pickup c = pickup-in-time

pub returns-clause-in_time : goal.returns-clause-in_time
returns-clause-in_time c = runs-in-time

pub returns-clause-green : goal.returns-clause-green
returns-clause-green c = zero-green
