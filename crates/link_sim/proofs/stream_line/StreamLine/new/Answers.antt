use Rattle.std.proofs.Common.{of_calls, ℕ, ◌≡◌, ◌≤◌, ◌+◌, ◌%◌, All, List, [], subst, sym, ap, arith}
use Rattle.link_sim.specs.declared.stream_line.Late.{Late}
use Rattle.link_sim.specs.Due.{due_texts}
use Rattle.link_sim.specs.LateLists.{on_late_list}
use Rattle.link_sim.proofs.LateLists.{on_late_list-empty}
use Rattle.link_sim.proofs.stream_line.StreamLine.new.Goals as goal
use Rattle.link_sim.proofs.stream_line.StreamLine.new.Goals.{After-from_fn}

-- no list has a copy
none : (c : After-from_fn) → (k : ℕ) → on_late_list c.from_fn.result k ≡ []
none c = on_late_list-empty c.from_fn.result (λ k d below. let called = c.from_fn.ensures.items.at k d (omega arith) in search (of_calls, called) parts 8)

pub invariant_of-result : goal.invariant_of-result
invariant_of-result c = record { sent = λ k. subst (λ (copies : List Late). All (λ copy. copy.sent ≤ 0) copies) (sym (none c k)) (λ i d below. absurd (omega (arith, below))) }

pub returns-clause-holds : goal.returns-clause-holds
returns-clause-holds c = λ faults rounds some. ap (due_texts 1 (0 + rounds)) (none (goal.at.returns-clause-holds c).After-from_fn ((0 + rounds) % 32))
