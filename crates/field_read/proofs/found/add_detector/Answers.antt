use Rattle.std.proofs.Common.{rules, ◌≡◌, ◌++◌, ◌∷◌, ◌≤◌, [], length, codes, ap, ◌∙◌, subst, arith}
use Rattle.std.proofs.lemmas.List.{length-append}
use Rattle.serde_json.specs.View.{view}
use Rattle.scenario_read.specs.Paths.{then_item}
use Rattle.scenario_file.specs.Listing.{list_path}
use Rattle.scenario_file.proofs.Growth.{told-next}
use Rattle.field_read.specs.Content.{detector_of}
use Rattle.field_read.specs.Lists.{any_detector}
use Rattle.field_read.proofs.found.add_detector.Goals as goal

pub returns-in-Ok-push : goal.returns-in-Ok-push
returns-in-Ok-push c = λ ds told.
    let d = view c.args.object.now in
    let place = c.len-place.result in
    let old = c.args.bank.now.items in
    let new = c.push.new.self.items in
    let path = list_path (codes "bank") in
    let counted : place ≡ length old = search rules in
    let more : new ≡ old ++ detector_of 64 d ∷ [] = c.in-Ok-push.ensures.items ∙ ap (λ i. old ++ i ∷ []) c.in-Ok.ensures.1 in
    let few : length new ≤ 512 = rw more (omega (arith, counted, length-append old (detector_of 64 d ∷ []), c.if-full.false)) in
    told-next path any_detector (detector_of 64) 512 old new ds d told
    record { causes = subst (λ n. any_detector (then_item path n) d ≡ []) counted c.in-Ok.ensures.0; more = more; few = few }
