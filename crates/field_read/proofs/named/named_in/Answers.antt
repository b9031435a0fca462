use Rattle.std.proofs.Common.{◌≡◌, ◌∙◌, ℕ, List, [], length, option_map, rules, sym, ap, subst}
use Rattle.std.proofs.lemmas.List.{length-map}
use Rattle.serde_json.specs.View.{view}
use Rattle.scenario_data.specs.declared.scenario.Scenario.{Scenario}
use Rattle.scenario_data.specs.Causes.{Cause}
use Rattle.scenario_data.specs.Content.{ScenarioContent, scenario_content, cabinet_content}
use Rattle.scenario_read.specs.Fields.{held, fields_faults}
use Rattle.scenario_read.specs.Content.{scenario_of}
use Rattle.scenario_read.specs.Readers.{Refuses}
use Rattle.scenario_read.specs.Answers.{IsScenario}
use Rattle.scenario_read.proofs.Objects.{at-same}
use Rattle.scenario_checked.specs.Inside.{scenario}
use Rattle.field_read.specs.Table.{traffic_fields}
use Rattle.field_read.specs.Content.{respond_content, rounds_run, cabinets_run, field_of}
use Rattle.field_read.specs.Places.{SaysTraffic}
use Rattle.field_read.proofs.WholeFields.{two-parts, at-first, at-second, none-of-two, content-from}
use Rattle.field_read.proofs.named.named_in.Goals as goal

pub returns-in-Err-clause-read : goal.returns-in-Err-clause-read
returns-in-Err-clause-read c =
    let d = view c.args.value.now in
    let fail = c.in-Err.fail in
    subst (λ (causes : List Cause). Refuses fail causes) (sym (two-parts d c.in_ok-known_names.ensures.0)) (at-first fail _ _ c.in-Err.ensures.read)

pub returns-in-Err-traffic_in-clause-read : goal.returns-in-Err-traffic_in-clause-read
returns-in-Err-traffic_in-clause-read c =
    let d = view c.args.value.now in
    let fail = c.in-Err-traffic_in.fail in
    let s = c.in-Ok.scenario in
    let said : scenario_content s ≡ scenario_of (held scenario d) = c.in-Ok.ensures.read.1 in
    let rounds : s.rounds ≡ rounds_run d = ap (λ (x : ScenarioContent). x.rounds) said in
    let long : c.len.result ≡ length s.cabinets.items = search rules in
    let count : c.len.result ≡ cabinets_run d = long ∙ sym (length-map s.cabinets.items cabinet_content) ∙ ap (λ (x : ScenarioContent). length x.cabinets) said in
    let refused : Refuses fail (fields_faults [] d (traffic_fields (rounds_run d) (cabinets_run d))) =
    at-same (λ r k. Refuses fail (fields_faults [] d (traffic_fields r k))) s.rounds c.len.result (rounds_run d) (cabinets_run d) rounds count c.in-Err-traffic_in.ensures in
    subst (λ (causes : List Cause). Refuses fail causes) (sym (two-parts d c.in_ok-known_names.ensures.0)) (at-second fail _ _ c.in-Ok.ensures.read.0 refused)

pub returns-in-Ok-traffic_in-clause-read : goal.returns-in-Ok-traffic_in-clause-read
returns-in-Ok-traffic_in-clause-read c =
    let d = view c.args.value.now in
    let s = c.in-Ok.scenario in
    let f = c.field_from.result in
    let from = c.field_from.ensures in
    let said : scenario_content s ≡ scenario_of (held scenario d) = c.in-Ok.ensures.read.1 in
    let rounds : s.rounds ≡ rounds_run d = ap (λ (x : ScenarioContent). x.rounds) said in
    let long : c.len.result ≡ length s.cabinets.items = search rules in
    let count : c.len.result ≡ cabinets_run d = long ∙ sym (length-map s.cabinets.items cabinet_content) ∙ ap (λ (x : ScenarioContent). length x.cabinets) said in
    let P : ℕ → ℕ → Type 0 = λ r k. (fields_faults [] d (traffic_fields r k) ≡ []) × SaysTraffic c.in-Ok-traffic_in.traffic r k d in
    let given : P (rounds_run d) (cabinets_run d) = at-same P s.rounds c.len.result (rounds_run d) (cabinets_run d) rounds count c.in-Ok-traffic_in.ensures in (
      two-parts d c.in_ok-known_names.ensures.0 ∙ none-of-two _ _ c.in-Ok.ensures.read.0 given.0,
      content-from (scenario_content f.scenario) f.bank.items f.pulses.items (option_map respond_content f.respond) (field_of d)
          (ap scenario_content from.scenario ∙ said) (ap (λ v. v.items) from.bank ∙ given.1.bank) (ap (λ v. v.items) from.pulses ∙ given.1.pulses)
          (ap (λ o. option_map respond_content o) from.respond ∙ given.1.respond),
    )

pub returns-in-Ok-traffic_in-clause-back : goal.returns-in-Ok-traffic_in-clause-back
returns-in-Ok-traffic_in-clause-back c =
    subst (λ (s : Scenario). IsScenario s.compact.items (scenario_content s)) (sym c.field_from.ensures.scenario) c.in-Ok.ensures.back
