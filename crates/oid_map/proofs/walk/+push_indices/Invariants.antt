use Rattle.std.proofs.Common.{length}
use Rattle.oid_map.proofs.walk.+push_indices.Given as goal

abbrev pub decreases-push_indices : goal.decreases-push_indices
decreases-push_indices l = length l.indices.now
