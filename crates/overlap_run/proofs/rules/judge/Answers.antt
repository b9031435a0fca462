use Rattle.overlap_run.proofs.Parents.{faultless}
use Rattle.overlap_run.proofs.rules.judge.Goals as goal

pub short_parent-requires-clause-phases : goal.short_parent-requires-clause-phases
short_parent-requires-clause-phases c = faultless c.in-Some.opening.now c.args.parents.now c.in-Ok.ensures.ok
