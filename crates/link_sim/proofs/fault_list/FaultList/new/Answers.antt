use Rattle.std.proofs.Common.{rules, List, ap, ◌∙◌}
use Rattle.std.proofs.lemmas.List.Sorted.{answers_always}
use Rattle.sig_types.specs.Passes.{pass_of}
use Rattle.scenario_data.specs.declared.scenario.Fault.{Fault}
use Rattle.link_sim.specs.Faults.{fault_of}
use Rattle.link_sim.specs.Order.{rank_of}
use Rattle.link_sim.proofs.Order.{sorted_same}
use Rattle.link_sim.proofs.fault_list.FaultList.new.Goals as goal

pub invariant_of-result : goal.invariant_of-result
invariant_of-result c = record {
  in_order = c.in-Ok-sort_by_key.ensures.sorted (λ f. (f.round, f.cabinet, pass_of f.stream, rank_of f.way, f.index)) (answers_always _ _ _ (λ f a r g h. search rules));
}

pub returns-in-Ok-sort_by_key : goal.returns-in-Ok-sort_by_key
returns-in-Ok-sort_by_key c = λ line round place.
    sorted_same c.in-Ok.sorted.items c.sort_by_key.new.self.items
    (c.in-Ok-sort_by_key.ensures.stable (λ f. (f.round, f.cabinet, pass_of f.stream, rank_of f.way, f.index)) (answers_always _ _ _ (λ f a r g h. search rules)))
    line round place
    ∙ ap (λ (faults : List Fault). fault_of faults line round place) c.in-Ok.ensures.items
