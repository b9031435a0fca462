use Rattle.std.proofs.Common.{arith}
use Rattle.overlap_run.proofs.Parents.{in-at}
use Rattle.overlap_run.proofs.rules.short_parent.Goals as goal

pub least_yellow-requires-clause-above : goal.least_yellow-requires-clause-above
least_yellow-requires-clause-above c = (c.requires.phases _ (in-at c.args.parents.now c.loop-parent.parent-index 0 (omega arith))).0

pub least_yellow-requires-clause-within : goal.least_yellow-requires-clause-within
least_yellow-requires-clause-within c = (c.requires.phases _ (in-at c.args.parents.now c.loop-parent.parent-index 0 (omega arith))).1

pub least_red-requires-clause-above : goal.least_red-requires-clause-above
least_red-requires-clause-above c = (c.requires.phases _ (in-at c.args.parents.now c.loop-parent.parent-index 0 (omega arith))).0

pub least_red-requires-clause-within : goal.least_red-requires-clause-within
least_red-requires-clause-within c = (c.requires.phases _ (in-at c.args.parents.now c.loop-parent.parent-index 0 (omega arith))).1
