use Rattle.std.proofs.Common.{rules, ◌≡◌, ◌++◌, ◌∷◌, [], length, map, codes, sym, ap, ◌∙◌}
use Rattle.std.proofs.lemmas.List.{length-map}
use Rattle.serde_json.specs.View.{view}
use Rattle.scenario_data.specs.declared.scenario.LoadItem.{LoadItem}
use Rattle.scenario_data.specs.Content.{LoadContent, load_content}
use Rattle.scenario_read.specs.Paths.{then_item}
use Rattle.scenario_file.specs.Listing.{list_path}
use Rattle.scenario_read.specs.Readers.{load_cabinets}
use Rattle.scenario_read.specs.Content.{load_of}
use Rattle.scenario_read.proofs.Compact.{load-floatless}
use Rattle.scenario_read.proofs.Walks.{map-more}
use Rattle.scenario_file.proofs.Growth.{loads-next}
use Rattle.scenario_file.proofs.found.add_load.Goals as goal

pub returns-clause-added : goal.returns-clause-added
returns-clause-added c = λ ds told.
    let d = view c.args.object.now in
    let place = c.len-place.result in
    let items = c.args.loads.now.items in
    let old = map load_content items in
    let new = c.push_load.new.loads.items in
    let counted : place ≡ length items = search rules in
    let placed : place ≡ length old = counted ∙ sym (length-map items load_content) in
    let says : load_content c.in-Ok.load ≡ load_of 86400 64 d = c.in-Ok.ensures.1 in
    let pushed = c.in_ok-push_load.ensures in
    let more = ap (map load_content) pushed ∙ map-more load_content items c.in-Ok.load ∙ ap (λ i. old ++ i ∷ []) says in
    let of-cabinet = λ (load : LoadItem). load.cabinet in
    let named = ap load_cabinets pushed ∙ map-more of-cabinet items c.in-Ok.load ∙ ap (λ k. load_cabinets items ++ k ∷ []) (ap (λ (l : LoadContent). l.cabinet) says) in
    loads-next old (map load_content new) (load_cabinets items) (load_cabinets new) place ds d told c.in-Ok.ensures.0 placed more named

pub returns-clause-floatless : goal.returns-clause-floatless
returns-clause-floatless c = λ sorted. load-floatless 86400 64 (load_cabinets c.args.loads.now.items) (then_item (list_path (codes "loads")) c.len-place.result) (view c.args.object.now) sorted c.in-Ok.ensures.0
