use Rattle.std.proofs.Common.{◌∙◌, ◌==◌, ◌-◌, ap, arith, List, get_or}
use Rattle.sig_tables.specs.declared.tables.SplitEntry.{SplitEntry}
use Rattle.sig_tables.specs.Cells.{missing_entry}
use Rattle.sig_tables.specs.Slots.{split_entry}
use Rattle.sig_tables.proofs.Below.{below-start, below-more, below-end}
use Rattle.pattern_plan.proofs.holding.omitted.Goals as goal

pub loop-phase-init : goal.loop-phase-init
loop-phase-init c = below-start c.empty-set.result (λ p. (split_entry c.args.tables.now c.args.pattern p).mode == 7) c.empty-set.ensures.has

pub loop-phase-preserved : goal.loop-phase-preserved
loop-phase-preserved c =
    below-more c.loop-phase.set c.with_if-set.result c.loop-phase.phase (λ p. (split_entry c.args.tables.now c.args.pattern p).mode == 7) _
    c.loop-phase.invariant c.with_if-set.ensures.has
    (ap (λ (e : SplitEntry). e.mode == 7) c.entry_in.ensures
    ∙ ap (λ (xs : List SplitEntry). (get_or xs (c.loop-phase.phase - 1) missing_entry).mode == 7) c.entries-entries.ensures.entries)

pub returns : goal.returns
returns c = below-end c.loop-phase.set c.loop-phase.phase
    (λ q. (split_entry c.args.tables.now c.args.pattern q).mode == 7) c.loop-phase.invariant (omega arith)
