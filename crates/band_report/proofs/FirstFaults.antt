-- A fault of a name of an object, or of its scenario, is the first fault of the object.
use Rattle.std.proofs.Common.{◌≡◌, List, [], map, Option, Some, None, unwrap_or, codes, refl, sym, ap, ◌∙◌, subst}
use Rattle.serde_json.specs.Data.{Data, null, boolean, number, string, array, object}
use Rattle.serde_json.specs.Find.{get}
use Rattle.scenario_data.specs.declared.refusal.ReadFail.{ReadFail}
use Rattle.scenario_data.specs.Causes.{Cause}
use Rattle.scenario_read.specs.Paths.{then_named}
use Rattle.scenario_read.specs.Kinds.{Wrong, fault_at}
use Rattle.scenario_read.specs.Fields.{either, faults_of, field_faults, held, names}
use Rattle.scenario_read.specs.Faults.{faults, first_cause}
use Rattle.scenario_read.specs.Readers.{Refuses, names_faults}
use Rattle.scenario_read.proofs.Objects.{known-object}
use Rattle.scenario_read.proofs.Refusing.{refuses_more}
use Rattle.scenario_cut.specs.declared.form.Form.TheVariants.{Outer}
use Rattle.scenario_cut.specs.Cutting.{cut}
use Rattle.scenario_cut.proofs.Same.{Same}
use Rattle.scenario_cut.proofs.Judging.{no-first, refuses-same}
use Rattle.scenario_cut.proofs.Members.{IsObject, unknown-same}
use Rattle.scenario_checked.specs.Inside.{inner_cause, inner_scenario, scenario}
use Rattle.band_report.specs.Asked.{asked_shape, band_faults}

is-outer : IsObject Outer
is-outer = record { opens = refl; closed = refl }

-- what is kept has the first fault of the object's names
names-kept : (d : Data) → Same (names_faults (names asked_shape.fields) [] (cut Outer d)) (names_faults (names asked_shape.fields) [] d)
names-kept null = refl
names-kept (boolean b) = refl
names-kept (number n) = refl
names-kept (string s) = refl
names-kept (array ds) = refl
names-kept (object ms) = unknown-same Outer is-outer asked_shape.fields refl [] ms

names-in : (d v : Data) → v ≡ cut Outer d → Same (names_faults (names asked_shape.fields) [] v) (names_faults (names asked_shape.fields) [] d)
names-in d v is = ap (λ (w : Data). first_cause (names_faults (names asked_shape.fields) [] w)) is ∙ names-kept d

name-first : (fail : ReadFail) (d : Data) → Refuses fail (names_faults (names asked_shape.fields) [] d) → Refuses fail (band_faults d)
name-first fail null h = refuses_more fail _ _ h
name-first fail (boolean b) h = refuses_more fail _ _ h
name-first fail (number n) h = refuses_more fail _ _ h
name-first fail (string s) h = refuses_more fail _ _ h
name-first fail (array ds) h = refuses_more fail _ _ h
name-first fail (object ms) h = refuses_more fail _ _ (refuses_more fail _ _ h)

pub name-refused : (fail : ReadFail) (d v : Data) → v ≡ cut Outer d → Refuses fail (names_faults (names asked_shape.fields) [] v) → Refuses fail (band_faults d)
name-refused fail d v is h = name-first fail d (refuses-same fail (names_faults (names asked_shape.fields) [] v) (names_faults (names asked_shape.fields) [] d) (names-in d v is) h)

-- null in place of a scenario has the fault of a scenario that isn't
at-scenario : (fail : ReadFail) (o : Option Data) → Refuses fail (map inner_cause (faults (unwrap_or (either o None) null)))
    → Refuses fail (faults_of inner_scenario (then_named [] (codes "scenario")) (either o None))
at-scenario fail None h = refuses-same fail (map inner_cause (faults null)) (fault_at (then_named [] (codes "scenario")) Wrong) refl h
at-scenario fail (Some d) h = h

-- where all names are known, the first fault of the scenario is that of the object
pub scenario-first : (fail : ReadFail) (d v : Data) → v ≡ cut Outer d → names_faults (names asked_shape.fields) [] v ≡ [] → Refuses fail (map inner_cause (faults (held scenario d)))
    → Refuses fail (band_faults d)
scenario-first fail d v is known h =
    let here : Refuses fail (field_faults [] d scenario) = at-scenario fail (get (codes "scenario") d) h in
    let all = known-object asked_shape [] d (no-first (names_faults (names asked_shape.fields) [] d) (sym (names-in d v is) ∙ ap first_cause known)) in
    refuses_more fail _ _ (subst (λ (causes : List Cause). Refuses fail causes) (sym all) (refuses_more fail _ [] (refuses_more fail (field_faults [] d scenario) _ here)))
