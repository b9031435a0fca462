use Rattle.std.proofs.Common.{◌≡◌, ◌+◌, ◌-◌, ◌<◌, length, get_or, sym, ◌∙◌, arith}
use Rattle.link_sim.specs.declared.agenda.Due.{Due}
use Rattle.link_sim.specs.Agenda.{is_of}
use Rattle.link_sim.proofs.Dates.{dues_total, due_is}
use Rattle.link_sim.proofs.Sorting.{part_kept, none_behind}
use Rattle.link_sim.proofs.agenda.span.Goals as goal

pub returns : goal.returns
returns c =
    let d : Due = record { round = 0; cabinet = 0; place = 0 } in
    let from = c.first_of-from.result in
    let end = c.end_of-end.result in
    let front = c.end_of-end.ensures.front in
    let whole : from + (end - from) ≡ end = omega (arith, front) in
    let within = c.end_of-end.ensures.within in
    part_kept (is_of c.args.round c.args.cab) d from (end - from) c.args.sorted.now (omega (arith, whole, within))
    (λ k low. c.first_of-from.ensures.before k d low)
    (λ k low high. c.end_of-end.ensures.own k d low (omega (arith, whole, high)))
    (λ k high below.
    let last : end < length c.args.sorted.now = omega (arith, whole, high, below) in
    sym (due_is c.args.round c.args.cab (get_or c.args.sorted.now k d))
    ∙ none_behind dues_total c.args.sorted.now c.requires.in_order (record { round = c.args.round; cabinet = c.args.cab; place = 0 }) end d last
    (c.first_of-from.ensures.behind end d front last)
    (due_is c.args.round c.args.cab (get_or c.args.sorted.now end d) ∙ c.end_of-end.ensures.stop d last)
    k (omega (arith, whole, high)) below)
