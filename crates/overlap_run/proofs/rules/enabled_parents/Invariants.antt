use Rattle.std.proofs.Common.{drop}
use Rattle.overlap_run.proofs.Parents.{IsTaken}
use Rattle.overlap_run.proofs.rules.enabled_parents.Given as goal

-- the parents before this place are in the set, and none of them is faulty
abbrev pub invariant-loop-parent : goal.invariant-loop-parent
invariant-loop-parent l = IsTaken l.opening l.parents l.set (drop l.parent-index l.parents)
