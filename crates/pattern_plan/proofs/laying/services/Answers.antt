use Rattle.std.proofs.Common.{refl, arith}
use Rattle.sig_tables.specs.Slots.{least_service}
use Rattle.sig_tables.proofs.Filled.{filled-start, filled-more, filled-end}
use Rattle.pattern_plan.proofs.laying.services.Goals as goal

pub loop-phase-init : goal.loop-phase-init
loop-phase-init c = filled-start _ _ _ refl

pub loop-phase-preserved : goal.loop-phase-preserved
loop-phase-preserved c = filled-more 0 (least_service c.args.tables.now) _ _ _ c.loop-phase.invariant (omega arith) (omega arith) c.least_service.ensures.time

pub returns : goal.returns
returns c = filled-end _ _ _ _ c.loop-phase.invariant (omega arith)
