use Rattle.std.proofs.Common.{rules, ◌≡◌, ◌++◌, ◌∷◌, ◌≤◌, [], length, codes, ap, ◌∙◌, subst, arith}
use Rattle.std.proofs.lemmas.List.{length-append}
use Rattle.serde_json.specs.View.{view}
use Rattle.scenario_read.specs.Paths.{then_item}
use Rattle.scenario_read.specs.Content.{fault_of}
use Rattle.scenario_read.proofs.Compact.{fault-floatless}
use Rattle.scenario_file.specs.Listing.{list_path, any_fault}
use Rattle.scenario_file.proofs.Growth.{told-next}
use Rattle.scenario_file.proofs.found.add_fault.Goals as goal

pub returns-in-Ok-push-clause-added : goal.returns-in-Ok-push-clause-added
returns-in-Ok-push-clause-added c = λ ds told.
    let d = view c.args.object.now in
    let place = c.len-place.result in
    let old = c.args.faults.now.items in
    let new = c.push.new.self.items in
    let counted : place ≡ length old = search rules in
    let more : new ≡ old ++ fault_of 86400 64 d ∷ [] = c.in-Ok-push.ensures.items ∙ ap (λ i. old ++ i ∷ []) c.in-Ok.ensures.1 in
    let few : length new ≤ 100000 = rw more (omega (arith, counted, length-append old (fault_of 86400 64 d ∷ []), c.if-place-ge100000.false)) in
    told-next (list_path (codes "faults")) any_fault (fault_of 86400 64) 100000 old new ds d told
    record { causes = subst (λ n. any_fault (then_item (list_path (codes "faults")) n) d ≡ []) counted c.in-Ok.ensures.0; more = more; few = few }

pub returns-in-Ok-push-clause-floatless : goal.returns-in-Ok-push-clause-floatless
returns-in-Ok-push-clause-floatless c = λ sorted. fault-floatless 86400 64 (then_item (list_path (codes "faults")) c.len-place.result) (view c.args.object.now) sorted c.in-Ok.ensures.0
