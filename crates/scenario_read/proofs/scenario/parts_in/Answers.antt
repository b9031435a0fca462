use Rattle.std.proofs.Common.{◌≡◌, ℕ, List, [], length, rules, sym, ap, ◌∙◌, subst}
use Rattle.std.proofs.lemmas.List.{length-map}
use Rattle.serde_json.specs.View.{view}
use Rattle.scenario_data.specs.Causes.{Cause}
use Rattle.scenario_data.specs.Content.{cabinet_content}
use Rattle.scenario_read.specs.Fields.{fields_faults}
use Rattle.scenario_read.specs.Table.{setup_fields, event_fields}
use Rattle.scenario_read.specs.Content.{version_number, round_count, cabinet_count}
use Rattle.scenario_read.specs.Readers.{Refuses, SaysSetup, SaysEvents}
use Rattle.scenario_read.proofs.Objects.{three-parts, after-one, after-two, none-of-three, at-same}
use Rattle.scenario_read.proofs.scenario.parts_in.Goals as goal

pub returns-in-Err-clause-read : goal.returns-in-Err-clause-read
returns-in-Err-clause-read c =
    let d = view c.args.value.now in
    let fail = c.in-Err.fail in
    let same : c.in_ok-version.version ≡ version_number d = c.in_ok-version.ensures.read.1 in
    let refused : Refuses fail (fields_faults [] d (setup_fields (version_number d))) = subst (λ v. Refuses fail (fields_faults [] d (setup_fields v))) same c.in-Err.ensures.read in
    subst (λ (causes : List Cause). Refuses fail causes) (sym (three-parts d c.in_ok-known_names.ensures.0))
    (after-one fail _ _ _ c.in_ok-version.ensures.read.0 refused)

pub returns-in-Err-events_in-clause-read : goal.returns-in-Err-events_in-clause-read
returns-in-Err-events_in-clause-read c =
    let d = view c.args.value.now in
    let fail = c.in-Err-events_in.fail in
    let setup = c.in-Ok.setup in
    let same : c.in_ok-version.version ≡ version_number d = c.in_ok-version.ensures.read.1 in
    let none : fields_faults [] d (setup_fields (version_number d)) ≡ [] = subst (λ v. fields_faults [] d (setup_fields v) ≡ []) same c.in-Ok.ensures.read.0 in
    let says : SaysSetup setup (version_number d) d = subst (λ v. SaysSetup setup v d) same c.in-Ok.ensures.read.1 in
    let long : c.len.result ≡ length setup.cabinets.items = search rules in
    let count : c.len.result ≡ cabinet_count d = long ∙ sym (length-map setup.cabinets.items cabinet_content) ∙ ap length says.cabinets in
    let refused : Refuses fail (fields_faults [] d (event_fields (round_count d) (cabinet_count d))) =
    at-same (λ r k. Refuses fail (fields_faults [] d (event_fields r k))) setup.rounds c.len.result (round_count d) (cabinet_count d) says.rounds count c.in-Err-events_in.ensures in
    subst (λ (causes : List Cause). Refuses fail causes) (sym (three-parts d c.in_ok-known_names.ensures.0))
    (after-two fail _ _ _ c.in_ok-version.ensures.read.0 none refused)

pub returns-clause-read : goal.returns-clause-read
returns-clause-read c =
    let d = view c.args.value.now in
    let setup = c.in-Ok.setup in
    let events = c.in-Ok-events_in.events in
    let same : c.in_ok-version.version ≡ version_number d = c.in_ok-version.ensures.read.1 in
    let none : fields_faults [] d (setup_fields (version_number d)) ≡ [] = subst (λ v. fields_faults [] d (setup_fields v) ≡ []) same c.in-Ok.ensures.read.0 in
    let says : SaysSetup setup (version_number d) d = subst (λ v. SaysSetup setup v d) same c.in-Ok.ensures.read.1 in
    let long : c.len.result ≡ length setup.cabinets.items = search rules in
    let count : c.len.result ≡ cabinet_count d = long ∙ sym (length-map setup.cabinets.items cabinet_content) ∙ ap length says.cabinets in
    let P : ℕ → ℕ → Type 0 = λ r k. (fields_faults [] d (event_fields r k) ≡ []) × SaysEvents events r k d in
    let given : P (round_count d) (cabinet_count d) = at-same P setup.rounds c.len.result (round_count d) (cabinet_count d) says.rounds count c.in-Ok-events_in.ensures in (
      three-parts d c.in_ok-known_names.ensures.0 ∙ none-of-three _ _ _ c.in_ok-version.ensures.read.0 none given.0,
      record { version = same; setup = says; events = given.1 },
    )
