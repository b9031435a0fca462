use Rattle.oid_map.proofs.Rising.{readable_rises}
use Rattle.oid_map.proofs.Table.{readable_named, name_listed}
use Rattle.oid_map.proofs.laws.readable_instances.Goals as goal

pub returns-clause-rising : goal.returns-clause-rising
returns-clause-rising c = readable_rises

pub returns-clause-named : goal.returns-clause-named
returns-clause-named c = readable_named

pub returns-clause-each : goal.returns-clause-each
returns-clause-each c = name_listed
