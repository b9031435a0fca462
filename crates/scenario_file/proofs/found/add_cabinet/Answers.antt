use Rattle.std.proofs.Common.{rules, ◌≡◌, ◌++◌, ◌∷◌, ◌≤◌, [], length, map, codes, sym, ap, ◌∙◌, subst, arith}
use Rattle.std.proofs.lemmas.List.{length-append, length-map}
use Rattle.serde_json.specs.View.{view}
use Rattle.scenario_data.specs.Content.{cabinet_content}
use Rattle.scenario_read.specs.Paths.{then_item}
use Rattle.scenario_read.specs.Content.{cabinet_of}
use Rattle.scenario_read.proofs.Compact.{cabinet-floatless}
use Rattle.scenario_read.proofs.Walks.{map-more}
use Rattle.scenario_file.specs.Listing.{list_path, any_cabinet}
use Rattle.scenario_file.proofs.Growth.{told-next}
use Rattle.scenario_file.proofs.found.add_cabinet.Goals as goal

pub returns-clause-added : goal.returns-clause-added
returns-clause-added c = λ ds told.
    let d = view c.args.object.now in
    let place = c.len-place.result in
    let items = c.args.cabinets.now.items in
    let old = map cabinet_content items in
    let new = map cabinet_content c.push_cabinet.new.cabinets.items in
    let counted : place ≡ length items = search rules in
    let placed : place ≡ length old = counted ∙ sym (length-map items cabinet_content) in
    let more : new ≡ old ++ cabinet_of 2 d ∷ [] =
    ap (map cabinet_content) c.in_ok-push_cabinet.ensures ∙ map-more cabinet_content items c.in-Ok.cabinet ∙ ap (λ i. old ++ i ∷ []) c.in-Ok.ensures.1 in
    let few : length new ≤ 64 = rw more (omega (arith, placed, length-append old (cabinet_of 2 d ∷ []), c.if-place-ge64.false)) in
    told-next (list_path (codes "cabinets")) any_cabinet (cabinet_of 2) 64 old new ds d told
    record { causes = subst (λ n. any_cabinet (then_item (list_path (codes "cabinets")) n) d ≡ []) placed c.in-Ok.ensures.0; more = more; few = few }

pub returns-clause-floatless : goal.returns-clause-floatless
returns-clause-floatless c = λ sorted. cabinet-floatless 2 (then_item (list_path (codes "cabinets")) c.len-place.result) (view c.args.object.now) sorted c.in-Ok.ensures.0
