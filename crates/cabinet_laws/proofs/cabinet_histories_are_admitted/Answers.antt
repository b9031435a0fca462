use Rattle.cabinet_laws.proofs.Admitting.{same-tables, same-drift, cabinet_history-lawful}
use Rattle.cabinet_laws.proofs.cabinet_histories_are_admitted.Goals as goal

pub returns-clause-admitted : goal.returns-clause-admitted
returns-clause-admitted c = cabinet_history-lawful c.installs_what_keeps_the_rules.ensures

pub returns-clause-tables : goal.returns-clause-tables
returns-clause-tables c = same-tables

pub returns-clause-drift : goal.returns-clause-drift
returns-clause-drift c = same-drift
