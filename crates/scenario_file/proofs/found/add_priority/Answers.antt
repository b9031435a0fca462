use Rattle.std.proofs.Common.{rules, ◌≡◌, ◌++◌, ◌∷◌, ◌≤◌, [], length, codes, ap, ◌∙◌, subst, arith}
use Rattle.std.proofs.lemmas.List.{length-append}
use Rattle.serde_json.specs.View.{view}
use Rattle.scenario_read.specs.Paths.{then_item}
use Rattle.scenario_read.specs.Content.{priority_of}
use Rattle.scenario_read.proofs.Compact.{priority-floatless}
use Rattle.scenario_file.specs.Listing.{list_path, any_priority}
use Rattle.scenario_file.proofs.Growth.{told-next}
use Rattle.scenario_file.proofs.found.add_priority.Goals as goal

pub returns-in-Ok-push-clause-added : goal.returns-in-Ok-push-clause-added
returns-in-Ok-push-clause-added c = λ ds told.
    let d = view c.args.object.now in
    let place = c.len-place.result in
    let old = c.args.priority.now.items in
    let new = c.push.new.self.items in
    let counted : place ≡ length old = search rules in
    let more : new ≡ old ++ priority_of 86400 64 d ∷ [] = c.in-Ok-push.ensures.items ∙ ap (λ i. old ++ i ∷ []) c.in-Ok.ensures.1 in
    let few : length new ≤ 100000 = rw more (omega (arith, counted, length-append old (priority_of 86400 64 d ∷ []), c.if-place-ge100000.false)) in
    told-next (list_path (codes "priority")) any_priority (priority_of 86400 64) 100000 old new ds d told
    record { causes = subst (λ n. any_priority (then_item (list_path (codes "priority")) n) d ≡ []) counted c.in-Ok.ensures.0; more = more; few = few }

pub returns-in-Ok-push-clause-floatless : goal.returns-in-Ok-push-clause-floatless
returns-in-Ok-push-clause-floatless c = λ sorted. priority-floatless 86400 64 (then_item (list_path (codes "priority")) c.len-place.result) (view c.args.object.now) sorted c.in-Ok.ensures.0
