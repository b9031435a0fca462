use Rattle.std.proofs.Common.{refl, arith}
use Rattle.sig_tables.specs.Tables.{clearance}
use Rattle.sig_tables.proofs.Filled.{filled-start, filled-more, filled-end}
use Rattle.pattern_plan.proofs.laying.clearances.Goals as goal

pub loop-phase-init : goal.loop-phase-init
loop-phase-init c = filled-start _ _ _ refl

pub loop-phase-preserved : goal.loop-phase-preserved
loop-phase-preserved c = filled-more 0 (clearance c.args.tables.now) _ _ _ c.loop-phase.invariant (omega arith) (omega arith) c.clearance.ensures.time

pub returns : goal.returns
returns c = filled-end _ _ _ _ c.loop-phase.invariant (omega arith)
