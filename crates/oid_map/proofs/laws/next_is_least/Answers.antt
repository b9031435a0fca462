use Rattle.oid_map.specs.Order.{is_before}
use Rattle.oid_map.specs.Objects.{readable}
use Rattle.oid_map.proofs.Rising.{readable_rises}
use Rattle.oid_map.proofs.Least.{found_among, found_passes, found_least, none_passes}
use Rattle.oid_map.proofs.laws.next_is_least.Goals as goal

pub returns-clause-among : goal.returns-clause-among
returns-clause-among c name = found_among (is_before name) readable

pub returns-clause-after : goal.returns-clause-after
returns-clause-after c name = found_passes (is_before name) readable

pub returns-clause-least : goal.returns-clause-least
returns-clause-least c name = found_least (is_before name) readable readable_rises

pub returns-clause-none : goal.returns-clause-none
returns-clause-none c name = none_passes (is_before name) readable
