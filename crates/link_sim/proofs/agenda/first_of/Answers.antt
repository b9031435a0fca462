use Rattle.std.proofs.Common.{◌∙◌, sym, get_or, rules, of_calls, arith}
use Rattle.std.proofs.lemmas.Fn.{always_returns_same}
use Rattle.std.specs.Ordering.{is_lt}
use Rattle.link_sim.specs.Agenda.{by_round}
use Rattle.link_sim.proofs.Dates.{dues_total, due_is}
use Rattle.link_sim.proofs.Sorting.{parted, less_differs}
use Rattle.link_sim.proofs.agenda.first_of.Goals as goal

pub returns-clause-before : goal.returns-clause-before
returns-clause-before c = λ k d low.
    sym (due_is c.args.round c.args.cab (get_or c.args.sorted.now k d))
    ∙ less_differs (by_round (get_or c.args.sorted.now k d) (record { round = c.args.round; cabinet = c.args.cab; place = 0 }))
    ((c.partition_point.ensures.partitioned (λ due. is_lt (by_round due (record { round = c.args.round; cabinet = c.args.cab; place = 0 })))
    (always_returns_same _ _ _ (λ a r f k. search (rules, of_calls)))
    (parted dues_total c.args.sorted.now c.requires.in_order (record { round = c.args.round; cabinet = c.args.cab; place = 0 }))).0 k d (omega arith) low)

pub returns-clause-behind : goal.returns-clause-behind
returns-clause-behind c = λ k d high below.
    (c.partition_point.ensures.partitioned (λ due. is_lt (by_round due (record { round = c.args.round; cabinet = c.args.cab; place = 0 })))
    (always_returns_same _ _ _ (λ a r f k. search (rules, of_calls)))
    (parted dues_total c.args.sorted.now c.requires.in_order (record { round = c.args.round; cabinet = c.args.cab; place = 0 }))).1 k d high below
