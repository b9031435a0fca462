use Rattle.std.proofs.Common.{◌≡◌, ◌∙◌, ◌≤◌, ℕ, length, map, Some, codes, sym, ap, subst}
use Rattle.std.proofs.lemmas.List.{length-map}
use Rattle.serde_json.specs.Data.{Data}
use Rattle.serde_json.specs.Find.{get}
use Rattle.serde_json.specs.Read.{max_depth}
use Rattle.serde_json.specs.View.{view}
use Rattle.scenario_data.specs.Content.{ScenarioContent, cabinet_content}
use Rattle.scenario_read.specs.Content.{cabinets_of, scenario_of}
use Rattle.scenario_checked.proofs.Around.{few-cabinets, scenario-clean, scenario-held}
use Rattle.field_read.proofs.Inside.{member-sorted, member-nests}
use Rattle.field_read.proofs.inner.scenario_at.Goals as goal

pub scenario_in-requires : goal.scenario_in-requires
scenario_in-requires c =
    let d : Data = view c.args.object.now in
    let v : Data = view c.in-Some.value.now in
    let e : Some v ≡ get (codes "scenario") d = c.in-Some.ensures in
    record { sorted = member-sorted (codes "scenario") d v e c.requires.sorted; nests = member-nests (codes "scenario") d v max_depth e c.requires.nests }

pub returns-in-Ok-clause-read : goal.returns-in-Ok-clause-read
returns-in-Ok-clause-read c =
    let d : Data = view c.args.object.now in
    let v : Data = view c.in-Some.value.now in
    let e : Some v ≡ get (codes "scenario") d = c.in-Some.ensures in
    let read = c.in-Ok.ensures.read in
    (scenario-clean d v e read.0, read.1 ∙ ap scenario_of (sym (scenario-held d v e)))

pub returns-in-Ok-clause-few : goal.returns-in-Ok-clause-few
returns-in-Ok-clause-few c =
    let v : Data = view c.in-Some.value.now in
    let read = c.in-Ok.ensures.read in
    let is : map cabinet_content c.in-Ok.scenario.cabinets.items ≡ cabinets_of v = ap (λ (s : ScenarioContent). s.cabinets) read.1 in
    subst (λ (n : ℕ). n ≤ 64) (sym (sym (length-map c.in-Ok.scenario.cabinets.items cabinet_content) ∙ ap length is)) (few-cabinets v read.0)

pub returns-in-Ok-clause-back : goal.returns-in-Ok-clause-back
returns-in-Ok-clause-back c =
    let v : Data = view c.in-Some.value.now in
    let read = c.in-Ok.ensures.read in
    (v, c.in-Ok.ensures.back, read.0, read.1)
