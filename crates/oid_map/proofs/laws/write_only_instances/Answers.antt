use Rattle.oid_map.proofs.Table.{write_only_named, write_only_listed}
use Rattle.oid_map.proofs.laws.write_only_instances.Goals as goal

pub returns-clause-named : goal.returns-clause-named
returns-clause-named c = write_only_named

pub returns-clause-each : goal.returns-clause-each
returns-clause-each c = write_only_listed
