use Rattle.std.proofs.Common.{◌∙◌, ap, List, refl, arith}
use Rattle.sig_tables.specs.declared.tables.SplitEntry.{SplitEntry}
use Rattle.sig_tables.specs.Slots.{split_time}
use Rattle.sig_tables.specs.Laying.{time_of}
use Rattle.sig_tables.proofs.Filled.{filled-start, filled-more, filled-end}
use Rattle.pattern_plan.proofs.laying.splits.Goals as goal

pub loop-phase-init : goal.loop-phase-init
loop-phase-init c = filled-start _ _ _ refl

pub loop-phase-preserved : goal.loop-phase-preserved
loop-phase-preserved c = filled-more 0 (split_time c.args.tables.now c.args.pattern) _ _ _ c.loop-phase.invariant (omega arith) (omega arith)
    (c.time_of.ensures.time ∙ ap (λ (xs : List SplitEntry). time_of xs c.loop-phase.phase) c.entries-entries.ensures.entries)

pub returns-clause-each : goal.returns-clause-each
returns-clause-each c = filled-end _ _ _ _ c.loop-phase.invariant (omega arith)

pub returns-clause-sixteen : goal.returns-clause-sixteen
returns-clause-sixteen c = c.loop-phase.invariant.sixteen
