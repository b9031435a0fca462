use Rattle.std.proofs.Common.{refl, arith}
use Rattle.overlap_run.proofs.Parents.{taken-more}
use Rattle.overlap_run.proofs.rules.enabled_parents.Goals as goal

pub loop-parent-preserved : goal.loop-parent-preserved
loop-parent-preserved c =
    taken-more c.args.opening.now c.args.parents.now c.loop-parent.set c.with-set.result c.enabled_phases-enabled.result c.loop-parent.parent-index _ _ _ refl (omega arith)
    c.loop-parent.invariant c.if-not-holds.false c.holds.ensures c.if-holds.false c.holds-else-not-holds.ensures c.enabled_phases-enabled.ensures c.with-set.ensures.has
