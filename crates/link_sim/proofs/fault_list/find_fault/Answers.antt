use Rattle.std.proofs.Common.{sym, ◌∙◌, arith}
use Rattle.link_sim.specs.Order.{fault_at}
use Rattle.link_sim.proofs.Order.{met_here, met_nowhere}
use Rattle.link_sim.proofs.fault_list.find_fault.Goals as goal

pub returns-then-at-sorted : goal.returns-then-at-sorted
returns-then-at-sorted c =
    sym (met_nowhere c.args.sorted.now c.args.line c.args.round c.args.place c.first_not_before-at.result (fault_at c.args.line c.args.round c.args.place)
    c.requires.in_order (λ k low. c.first_not_before-at.ensures.before k _ low) (λ k high below. c.first_not_before-at.ensures.behind k _ high below)
    (λ below. absurd (omega arith)))

pub returns-then-meets : goal.returns-then-meets
returns-then-meets c =
    sym (met_here c.args.sorted.now c.args.line c.args.round c.args.place c.first_not_before-at.result _ (omega arith)
    (λ k low. c.first_not_before-at.ensures.before k _ low) (sym c.meets.ensures ∙ c.if-meets.true))

pub returns-else-meets : goal.returns-else-meets
returns-else-meets c =
    sym (met_nowhere c.args.sorted.now c.args.line c.args.round c.args.place c.first_not_before-at.result _
    c.requires.in_order (λ k low. c.first_not_before-at.ensures.before k _ low) (λ k high below. c.first_not_before-at.ensures.behind k _ high below)
    (λ below. sym c.meets.ensures ∙ c.if-meets.false))
