use Rattle.std.proofs.Common.{rules}
use Rattle.std.proofs.lemmas.List.Sorted.{answers_always}
use Rattle.link_sim.proofs.Dates.{sorted_dues}
use Rattle.link_sim.proofs.agenda.Agenda.new.Goals as goal

pub invariant_of-result : goal.invariant_of-result
invariant_of-result c = record { in_order = c.in-Ok.ensures.sorted (λ due. (due.round, due.cabinet)) (answers_always _ _ _ (λ f a r g h. search rules)) }

pub returns-in-Ok : goal.returns-in-Ok
returns-in-Ok c = λ round cab. sorted_dues c.args.dues.items c.sort_by_key.new.self.items
    (c.in-Ok.ensures.stable (λ due. (due.round, due.cabinet)) (answers_always _ _ _ (λ f a r g h. search rules))) round cab
