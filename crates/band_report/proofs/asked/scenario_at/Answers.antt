use Rattle.std.proofs.Common.{◌≡◌, ◌∙◌, ◌≤◌, ℕ, length, map, Some, codes, sym, ap, subst}
use Rattle.std.proofs.lemmas.List.{length-map}
use Rattle.serde_json.specs.Data.{Data}
use Rattle.serde_json.specs.Find.{get}
use Rattle.serde_json.specs.View.{view}
use Rattle.scenario_data.specs.Content.{ScenarioContent, cabinet_content}
use Rattle.scenario_read.specs.Content.{cabinets_of}
use Rattle.scenario_checked.proofs.Around.{few-cabinets, scenario-clean, scenario-held}
use Rattle.band_report.proofs.asked.scenario_at.Goals as goal

pub returns-in-Ok-clause-read : goal.returns-in-Ok-clause-read
returns-in-Ok-clause-read c =
    let d : Data = view c.args.object.now in
    let v : Data = view c.in-Some.value.now in
    let e : Some v ≡ get (codes "scenario") d = c.in-Some.ensures in
    let read = c.in-Ok.ensures in (
      scenario-clean d v e read.0,
      ap (λ (s : ScenarioContent). s.cabinets) c.scenario_from.ensures.content ∙ read.1.setup.cabinets ∙ ap cabinets_of (sym (scenario-held d v e)),
    )

pub returns-in-Ok-clause-few : goal.returns-in-Ok-clause-few
returns-in-Ok-clause-few c =
    let v : Data = view c.in-Some.value.now in
    let read = c.in-Ok.ensures in
    let is : map cabinet_content c.scenario_from.result.cabinets.items ≡ cabinets_of v =
    ap (λ (s : ScenarioContent). s.cabinets) c.scenario_from.ensures.content ∙ read.1.setup.cabinets in
    subst (λ (n : ℕ). n ≤ 64) (sym (sym (length-map c.scenario_from.result.cabinets.items cabinet_content) ∙ ap length is)) (few-cabinets v read.0)
