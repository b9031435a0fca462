use Rattle.std.proofs.Common.{rules, ◌≡◌, ◌++◌, ◌∷◌, ◌≤◌, [], length, map, codes, sym, ap, ◌∙◌, subst, arith}
use Rattle.std.proofs.lemmas.List.{length-append, length-map}
use Rattle.serde_json.specs.View.{view}
use Rattle.scenario_data.specs.Content.{frame_content}
use Rattle.scenario_read.specs.Paths.{then_item}
use Rattle.scenario_read.specs.Content.{frame_of}
use Rattle.scenario_read.proofs.Compact.{frame-floatless}
use Rattle.scenario_read.proofs.Walks.{map-more}
use Rattle.scenario_file.specs.Listing.{list_path, any_frame}
use Rattle.scenario_file.proofs.Growth.{told-next}
use Rattle.scenario_file.proofs.found.add_frame.Goals as goal

pub returns-clause-added : goal.returns-clause-added
returns-clause-added c = λ ds told.
    let d = view c.args.object.now in
    let place = c.len-place.result in
    let items = c.args.frames.now.items in
    let old = map frame_content items in
    let new = map frame_content c.push_frame.new.frames.items in
    let counted : place ≡ length items = search rules in
    let placed : place ≡ length old = counted ∙ sym (length-map items frame_content) in
    let more : new ≡ old ++ frame_of 86400 64 d ∷ [] =
    ap (map frame_content) c.in_ok-push_frame.ensures ∙ map-more frame_content items c.in-Ok.frame ∙ ap (λ i. old ++ i ∷ []) c.in-Ok.ensures.1 in
    let few : length new ≤ 100000 = rw more (omega (arith, placed, length-append old (frame_of 86400 64 d ∷ []), c.if-place-ge100000.false)) in
    told-next (list_path (codes "frames")) any_frame (frame_of 86400 64) 100000 old new ds d told
    record { causes = subst (λ n. any_frame (then_item (list_path (codes "frames")) n) d ≡ []) placed c.in-Ok.ensures.0; more = more; few = few }

pub returns-clause-floatless : goal.returns-clause-floatless
returns-clause-floatless c = λ sorted. frame-floatless 86400 64 (then_item (list_path (codes "frames")) c.len-place.result) (view c.args.object.now) sorted c.in-Ok.ensures.0
