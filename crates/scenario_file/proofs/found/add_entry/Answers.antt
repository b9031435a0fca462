use Rattle.std.proofs.Common.{rules, ◌≡◌, ◌++◌, ◌∷◌, ◌≤◌, [], length, ap, ◌∙◌, subst, arith}
use Rattle.std.proofs.lemmas.List.{length-append}
use Rattle.serde_json.specs.View.{view}
use Rattle.scenario_read.specs.Paths.{then_item}
use Rattle.scenario_read.specs.Content.{entry_of}
use Rattle.scenario_read.specs.Table.{entry_shape}
use Rattle.scenario_read.proofs.Floatless.{whole-floatless, object-floatless}
use Rattle.scenario_file.specs.Listing.{schedule_path, any_entry}
use Rattle.scenario_file.proofs.Growth.{told-next}
use Rattle.scenario_file.proofs.found.add_entry.Goals as goal

pub returns-in-Ok-push-clause-added : goal.returns-in-Ok-push-clause-added
returns-in-Ok-push-clause-added c = λ ds told.
    let d = view c.args.object.now in
    let place = c.len-place.result in
    let old = c.args.entries.now.items in
    let new = c.push.new.self.items in
    let counted : place ≡ length old = search rules in
    let more : new ≡ old ++ entry_of d ∷ [] = c.in-Ok-push.ensures.items ∙ ap (λ i. old ++ i ∷ []) c.in-Ok.ensures.1 in
    let few : length new ≤ 1000 = rw more (omega (arith, counted, length-append old (entry_of d ∷ []), c.if-place-ge1000.false)) in
    told-next schedule_path any_entry entry_of 1000 old new ds d told
    record { causes = subst (λ n. any_entry (then_item schedule_path n) d ≡ []) counted c.in-Ok.ensures.0; more = more; few = few }

pub returns-in-Ok-push-clause-floatless : goal.returns-in-Ok-push-clause-floatless
returns-in-Ok-push-clause-floatless c = λ sorted. object-floatless entry_shape (whole-floatless _ _, (whole-floatless _ _, (whole-floatless _ _, tt))) tt (then_item schedule_path c.len-place.result) (view c.args.object.now) sorted c.in-Ok.ensures.0
