use Rattle.sig_tables.specs.Decide.{past_at}
use Rattle.plan_facts.specs.Disturbances.{drift_of}
use Rattle.coordination_laws.proofs.Meeting.{meets-each, meets-history, no-sooner, tells-opening}
use Rattle.coordination_laws.proofs.coordination_kept.promise_kept.Goals as goal

pub returns-clause-each : goal.returns-clause-each
returns-clause-each c = meets-each

pub returns-clause-drifting : goal.returns-clause-drifting
returns-clause-drifting c = λ h tells. meets-each (drift_of (past_at h)) (past_at h).moments tells

pub returns-clause-history : goal.returns-clause-history
returns-clause-history c = λ h gain lose tells. meets-history h gain lose tells

pub returns-clause-opening : goal.returns-clause-opening
returns-clause-opening c = tells-opening

pub returns-clause-no_sooner : goal.returns-clause-no_sooner
returns-clause-no_sooner c = no-sooner
