-- A fault of a name of a field file, of its scenario, its bank, its pulses or its rules is the first fault of the file, where there is none
-- before it.
use Rattle.std.proofs.Common.{◌≡◌, ℕ, true, List, [], map, Option, Some, None, unwrap_or, codes, refl, sym, ap, ◌∙◌, subst}
use Rattle.serde_json.specs.Data.{Data, null, boolean, number, string, array, object}
use Rattle.serde_json.specs.Find.{get}
use Rattle.scenario_data.specs.declared.refusal.ReadFail.{ReadFail}
use Rattle.scenario_data.specs.Causes.{Cause}
use Rattle.scenario_read.specs.Paths.{then_named}
use Rattle.scenario_read.specs.Kinds.{Wrong, fault_at, is_among}
use Rattle.scenario_read.specs.Fields.{Field, either, faults_of, field_faults, fields_faults, held}
use Rattle.scenario_read.specs.Faults.{faults, first_cause}
use Rattle.scenario_read.specs.Readers.{Refuses, names_faults}
use Rattle.scenario_read.proofs.Refusing.{refuses_more}
use Rattle.scenario_cut.specs.declared.form.Form.TheVariants.{Outer}
use Rattle.scenario_cut.specs.declared.judge.Extent.{Extent}
use Rattle.scenario_cut.specs.Checks.{IsClean}
use Rattle.scenario_cut.specs.Cutting.{names_at, cut}
use Rattle.scenario_cut.proofs.Checking.{second, third}
use Rattle.scenario_cut.proofs.Judging.{no-first, refuses-same}
use Rattle.scenario_cut.proofs.Members.{IsObject, CutKeeps, unknown-same, field-same}
use Rattle.scenario_cut.proofs.Same.{Same}
use Rattle.scenario_checked.specs.Inside.{inner_cause, inner_scenario, scenario}
use Rattle.field_read.specs.Checks.{file_faults}
use Rattle.field_read.specs.Content.{rounds_run, cabinets_run}
use Rattle.field_read.specs.Parts.{known}
use Rattle.field_read.specs.Table.{bank, pulses, respond, traffic_fields, field_shape}
use Rattle.field_read.proofs.Kept.{bank-same, respond-same}
use Rattle.field_read.proofs.WholeFields.{two-parts, at-first, at-second}

is-outer : IsObject Outer
is-outer = record { opens = refl; closed = refl }

-- what is kept has the first fault of the object's names
names-kept : (d : Data) → Same (names_faults known [] (cut Outer d)) (names_faults known [] d)
names-kept null = refl
names-kept (boolean b) = refl
names-kept (number n) = refl
names-kept (string s) = refl
names-kept (array ds) = refl
names-kept (object ms) = unknown-same Outer is-outer (field_shape 1 1).fields refl [] ms

names-in : (d v : Data) → v ≡ cut Outer d → Same (names_faults known [] v) (names_faults known [] d)
names-in d v is = ap (λ (w : Data). first_cause (names_faults known [] w)) is ∙ names-kept d

name-first : (fail : ReadFail) (d : Data) → Refuses fail (names_faults known [] d) → Refuses fail (file_faults d)
name-first fail null h = refuses_more fail _ _ h
name-first fail (boolean b) h = refuses_more fail _ _ h
name-first fail (number n) h = refuses_more fail _ _ h
name-first fail (string s) h = refuses_more fail _ _ h
name-first fail (array ds) h = refuses_more fail _ _ h
name-first fail (object ms) h = refuses_more fail _ _ (refuses_more fail _ _ h)

pub name-refused : (fail : ReadFail) (d v : Data) → v ≡ cut Outer d → Refuses fail (names_faults known [] v) → Refuses fail (file_faults d)
name-refused fail d v is h = name-first fail d (refuses-same fail (names_faults known [] v) (names_faults known [] d) (names-in d v is) h)

-- null in place of a scenario has the fault of a scenario that isn't
at-scenario : (fail : ReadFail) (o : Option Data) → Refuses fail (map inner_cause (faults (unwrap_or (either o None) null)))
    → Refuses fail (faults_of inner_scenario (then_named [] (codes "scenario")) (either o None))
at-scenario fail None h = refuses-same fail (map inner_cause (faults null)) (fault_at (then_named [] (codes "scenario")) Wrong) refl h
at-scenario fail (Some d) h = h

-- where all names are known, the first fault of the scenario is that of the file
pub scenario-first : (fail : ReadFail) (d v : Data) → v ≡ cut Outer d → names_faults known [] v ≡ [] → Refuses fail (map inner_cause (faults (held scenario d)))
    → Refuses fail (file_faults d)
scenario-first fail d v is clean h =
    let here : Refuses fail (field_faults [] d scenario) = at-scenario fail (get (codes "scenario") d) h in
    let all = two-parts d (no-first (names_faults known [] d) (sym (names-in d v is) ∙ ap first_cause clean)) in
    refuses_more fail _ _ (subst (λ (causes : List Cause). Refuses fail causes) (sym all) (at-first fail (field_faults [] d scenario) _ here))

-- ---- after a scenario without faults

scenario-none : (o : Option Data) → faults (unwrap_or (either o None) null) ≡ [] → faults_of inner_scenario (then_named [] (codes "scenario")) (either o None) ≡ []
scenario-none None e = absurd (cc)
scenario-none (Some d) e = ap (map inner_cause) e

-- the first fault of what is next to it is that of the file
beside-first : (fail : ReadFail) (d v : Data) → v ≡ cut Outer d → names_faults known [] v ≡ [] → faults (held scenario d) ≡ []
    → Refuses fail (fields_faults [] d (traffic_fields (rounds_run d) (cabinets_run d))) → Refuses fail (file_faults d)
beside-first fail d v is clean none h =
    let own : field_faults [] d scenario ≡ [] = scenario-none (get (codes "scenario") d) none in
    let all = two-parts d (no-first (names_faults known [] d) (sym (names-in d v is) ∙ ap first_cause clean)) in
    refuses_more fail _ _ (subst (λ (causes : List Cause). Refuses fail causes) (sym all) (at-second fail (field_faults [] d scenario) _ own h))

-- what is kept of the bank and of the rules has their first fault
field-kept : (field : Field) (d v : Data) → is_among (names_at Outer) field.name ≡ true → CutKeeps Outer field → v ≡ cut Outer d → Same (field_faults [] v field) (field_faults [] d field)
field-kept field d v has keeps is = ap (λ (w : Data). first_cause (field_faults [] w field)) is ∙ field-same Outer is-outer [] d field has keeps

bank-kept : (cabinets : ℕ) (d v : Data) → v ≡ cut Outer d → Same (field_faults [] v (bank cabinets)) (field_faults [] d (bank cabinets))
bank-kept cabinets d v is = field-kept (bank cabinets) d v refl (bank-same cabinets) is

respond-kept : (d v : Data) → v ≡ cut Outer d → Same (field_faults [] v respond) (field_faults [] d respond)
respond-kept d v is = field-kept respond d v refl respond-same is

bank-none : (d v : Data) (e : Extent) → v ≡ cut Outer d → IsClean e (held scenario d) → field_faults [] v (bank e.cabinets) ≡ [] → field_faults [] d (bank (cabinets_run d)) ≡ []
bank-none d v e is whole none =
    let own : field_faults [] d (bank e.cabinets) ≡ [] = no-first (field_faults [] d (bank e.cabinets)) (sym (bank-kept e.cabinets d v is) ∙ ap first_cause none) in
    subst (λ (x : Extent). field_faults [] d (bank x.cabinets) ≡ []) whole.is own

pub bank-first : (fail : ReadFail) (d v : Data) (e : Extent) → v ≡ cut Outer d → names_faults known [] v ≡ [] → IsClean e (held scenario d) → Refuses fail (field_faults [] v (bank e.cabinets))
    → Refuses fail (file_faults d)
bank-first fail d v e is clean whole h =
    let here : Refuses fail (field_faults [] d (bank e.cabinets)) = refuses-same fail (field_faults [] v (bank e.cabinets)) (field_faults [] d (bank e.cabinets)) (bank-kept e.cabinets d v is) h in
    let there : Refuses fail (field_faults [] d (bank (cabinets_run d))) = subst (λ (x : Extent). Refuses fail (field_faults [] d (bank x.cabinets))) whole.is here in
    beside-first fail d v is clean whole.clean (refuses_more fail (field_faults [] d (bank (cabinets_run d))) _ there)

pub pulses-first : (fail : ReadFail) (d v : Data) (e : Extent) → v ≡ cut Outer d → names_faults known [] v ≡ [] → IsClean e (held scenario d) → field_faults [] v (bank e.cabinets) ≡ []
    → Refuses fail (field_faults [] d (pulses e.rounds e.cabinets)) → Refuses fail (file_faults d)
pulses-first fail d v e is clean whole none h =
    let first : field_faults [] d (bank (cabinets_run d)) ≡ [] = bank-none d v e is whole none in
    let there : Refuses fail (field_faults [] d (pulses (rounds_run d) (cabinets_run d))) = subst (λ (x : Extent). Refuses fail (field_faults [] d (pulses x.rounds x.cabinets))) whole.is h in
    beside-first fail d v is clean whole.clean
    (second fail (field_faults [] d (bank (cabinets_run d))) (field_faults [] d (pulses (rounds_run d) (cabinets_run d))) _ first there)

pub respond-first : (fail : ReadFail) (d v : Data) (e : Extent) → v ≡ cut Outer d → names_faults known [] v ≡ [] → IsClean e (held scenario d) → field_faults [] v (bank e.cabinets) ≡ []
    → field_faults [] d (pulses e.rounds e.cabinets) ≡ [] → Refuses fail (field_faults [] v respond) → Refuses fail (file_faults d)
respond-first fail d v e is clean whole none right h =
    let first : field_faults [] d (bank (cabinets_run d)) ≡ [] = bank-none d v e is whole none in
    let behind : field_faults [] d (pulses (rounds_run d) (cabinets_run d)) ≡ [] = subst (λ (x : Extent). field_faults [] d (pulses x.rounds x.cabinets) ≡ []) whole.is right in
    let there : Refuses fail (field_faults [] d respond) = refuses-same fail (field_faults [] v respond) (field_faults [] d respond) (respond-kept d v is) h in
    beside-first fail d v is clean whole.clean
    (third fail (field_faults [] d (bank (cabinets_run d))) (field_faults [] d (pulses (rounds_run d) (cabinets_run d))) (field_faults [] d respond) [] first behind there)
