use Rattle.std.proofs.Common.{refl}
use Rattle.oid_map.specs.Objects.{objects, readable}
use Rattle.oid_map.proofs.Least.{walk_is}
use Rattle.oid_map.proofs.laws.walk_meets_each.Goals as goal

pub returns-clause-walk : goal.returns-clause-walk
returns-clause-walk c = walk_is

pub returns-clause-count : goal.returns-clause-count
unfolding objects readable
returns-clause-count c = refl
