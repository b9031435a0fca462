use Rattle.cabinet_laws.proofs.Ranging.{now-fits, all-ranged}
use Rattle.cabinet_laws.proofs.tables_stay_in_range.Goals as goal

pub returns-clause-now : goal.returns-clause-now
returns-clause-now c = now-fits

pub returns-clause-each : goal.returns-clause-each
returns-clause-each c = all-ranged
