use Rattle.oid_map.proofs.Rows.{next_first, next_second}
use Rattle.oid_map.proofs.walk.next_after.Goals as goal

pub returns-in-Some : goal.returns-in-Some
returns-in-Some c = next_first c.args.name.now c.in-Some.found.items c.in-Some.ensures

pub returns-in-None : goal.returns-in-None
returns-in-None c = next_second c.args.name.now c.next_under-in-None.result c.in-None.ensures c.next_under-in-None.ensures
