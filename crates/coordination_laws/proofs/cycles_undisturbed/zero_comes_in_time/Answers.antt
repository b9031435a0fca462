use Rattle.coordination_laws.proofs.Cycles.{cycle-pickup, cycle-step, cycle-in-time}
use Rattle.coordination_laws.proofs.cycles_undisturbed.zero_comes_in_time.Goals as goal

pub returns-clause-pickup : goal.returns-clause-pickup
returns-clause-pickup c = cycle-pickup

pub returns-clause-step : goal.returns-clause-step
returns-clause-step c = cycle-step

pub returns-clause-in_time : goal.returns-clause-in_time
returns-clause-in_time c = cycle-in-time
