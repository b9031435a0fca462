use Rattle.sig_tables.specs.Decide.{past_at}
use Rattle.tick_laws.proofs.Waiting.{vehicle-locked, vehicle-stays, vehicle-served, call-demands}
use Rattle.tick_laws.proofs.called.calls_stay.Goals as goal

pub returns-clause-locked : goal.returns-clause-locked
returns-clause-locked c = λ h field p ph l n. vehicle-locked h field p ph l n

pub returns-clause-stays : goal.returns-clause-stays
returns-clause-stays c = λ h later p ph s n. vehicle-stays h later p ph s n

pub returns-clause-served : goal.returns-clause-served
returns-clause-served c = λ h p ph green. vehicle-served (past_at h) p ph green

pub returns-clause-called : goal.returns-clause-called
returns-clause-called c = λ h p ph s e red o. call-demands (past_at h) p ph s e red o
