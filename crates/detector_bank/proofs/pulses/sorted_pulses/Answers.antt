use Rattle.std.proofs.Common.{ap, ◌∙◌, rules, of_calls}
use Rattle.std.proofs.lemmas.List.Sorted.{answers_always, IsNonDecreasingBy-from_sort_by_key}
use Rattle.detector_bank.specs.Watching.{key, at_key}
use Rattle.detector_bank.proofs.Sorting.{sorted-same}
use Rattle.detector_bank.proofs.pulses.sorted_pulses.Goals as goal

pub returns-in-Ok-sort_by_key-clause-rises : goal.returns-in-Ok-sort_by_key-clause-rises
returns-in-Ok-sort_by_key-clause-rises c =
    IsNonDecreasingBy-from_sort_by_key (λ p. key p) _ c.in-Ok-sort_by_key.ensures.sorted (λ a r q k. search (rules, of_calls))

pub returns-in-Ok-sort_by_key-clause-same : goal.returns-in-Ok-sort_by_key-clause-same
returns-in-Ok-sort_by_key-clause-same c = λ n.
    sorted-same _ _ (c.in-Ok-sort_by_key.ensures.stable (λ p. key p) (answers_always _ _ _ (λ f a r g h. search (rules, of_calls)))) n
    ∙ ap (λ xs. at_key n xs) c.in-Ok.ensures.items
