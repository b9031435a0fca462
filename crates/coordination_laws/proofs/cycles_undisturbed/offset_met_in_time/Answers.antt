use Rattle.coordination_laws.proofs.Offsets.{pickup-begins, zero-begins, path-begins, path-step, offset-early, path-holds, path-no-sooner}
use Rattle.coordination_laws.proofs.cycles_undisturbed.offset_met_in_time.Goals as goal

pub returns-clause-pickup : goal.returns-clause-pickup
returns-clause-pickup c = pickup-begins

pub returns-clause-zero : goal.returns-clause-zero
returns-clause-zero c = zero-begins

pub returns-clause-begins : goal.returns-clause-begins
returns-clause-begins c = path-begins

pub returns-clause-step : goal.returns-clause-step
returns-clause-step c = path-step

pub returns-clause-early : goal.returns-clause-early
returns-clause-early c = offset-early

pub returns-clause-met : goal.returns-clause-met
returns-clause-met c = path-holds

pub returns-clause-no_sooner : goal.returns-clause-no_sooner
returns-clause-no_sooner c = path-no-sooner
