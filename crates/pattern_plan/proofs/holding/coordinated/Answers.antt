use Rattle.std.proofs.Common.{◌∙◌, ◌==◌, ◌-◌, ap, refl, arith, List, get_or}
use Rattle.sig_tables.specs.declared.tables.SplitEntry.{SplitEntry}
use Rattle.sig_tables.specs.Cells.{missing_entry}
use Rattle.sig_tables.specs.Slots.{split_entry}
use Rattle.sig_tables.proofs.Below.{below-start, below-more, below-end}
use Rattle.pattern_plan.proofs.holding.coordinated.Goals as goal

pub loop-phase-init : goal.loop-phase-init
loop-phase-init c = below-start c.empty-set.result (λ p. (split_entry c.args.tables.now c.args.pattern p).coordinated == 1) c.empty-set.ensures.has

pub loop-phase-preserved : goal.loop-phase-preserved
loop-phase-preserved c =
    below-more c.loop-phase.set c.with_if-set.result c.loop-phase.phase (λ p. (split_entry c.args.tables.now c.args.pattern p).coordinated == 1) _
    c.loop-phase.invariant c.with_if-set.ensures.has
    (ap (λ (e : SplitEntry). e.coordinated == 1) c.entry_in.ensures
    ∙ ap (λ (xs : List SplitEntry). (get_or xs (c.loop-phase.phase - 1) missing_entry).coordinated == 1) c.entries-entries.ensures.entries)

pub returns : goal.returns
returns c = λ p on. c.meet.ensures.has p
    ∙ rw (
      c.requires.enabled p on,
      below-end c.loop-phase.set c.loop-phase.phase
          (λ q. (split_entry c.args.tables.now c.args.pattern q).coordinated == 1) c.loop-phase.invariant (omega arith) p on,
    ) refl
