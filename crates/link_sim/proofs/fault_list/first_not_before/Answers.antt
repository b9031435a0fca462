use Rattle.std.proofs.Common.{rules, of_calls, arith}
use Rattle.std.proofs.lemmas.Fn.{always_returns_same}
use Rattle.std.specs.Ordering.{is_lt}
use Rattle.link_sim.specs.Order.{by_place, fault_at}
use Rattle.link_sim.proofs.Order.{faults_total}
use Rattle.link_sim.proofs.Sorting.{parted}
use Rattle.link_sim.proofs.fault_list.first_not_before.Goals as goal

pub returns-clause-before : goal.returns-clause-before
returns-clause-before c = λ k d low.
    (c.partition_point.ensures.partitioned (λ f. is_lt (by_place f (fault_at c.args.line c.args.round c.args.place)))
    (always_returns_same _ _ _ (λ a r f k. search (rules, of_calls)))
    (parted faults_total c.args.sorted.now c.requires.in_order (fault_at c.args.line c.args.round c.args.place))).0 k d (omega arith) low

pub returns-clause-behind : goal.returns-clause-behind
returns-clause-behind c = λ k d high below.
    (c.partition_point.ensures.partitioned (λ f. is_lt (by_place f (fault_at c.args.line c.args.round c.args.place)))
    (always_returns_same _ _ _ (λ a r f k. search (rules, of_calls)))
    (parted faults_total c.args.sorted.now c.requires.in_order (fault_at c.args.line c.args.round c.args.place))).1 k d high below
