-- The parts of an object, as a value is put at one of its names.
use Rattle.std.proofs.Common.{◌≡◌, ◌≤◌, ℕ, List, [], ◌∷◌, length, map, Vec, Global, false, Option, Some, unwrap_or, Result, Ok, codes, bytes_eq, refl, sym, ap, subst, Err}
use Rattle.serde_json.specs.Data.{Data, null, boolean, number, string, array, object, Members, put}
use Rattle.serde_json.proofs.Views.{get_member-put, get_member-put_other}
use Rattle.scenario_data.specs.declared.refusal.ReadFail.{ReadFail}
use Rattle.scenario_data.specs.declared.scenario.Scenario.{Scenario}
use Rattle.scenario_data.specs.Content.{ScenarioContent, scenario_content}
use Rattle.scenario_read.specs.Paths.{then_named}
use Rattle.scenario_read.specs.Kinds.{Wrong, fault_at, whole}
use Rattle.scenario_read.specs.Content.{list_in, scenario_of, whole_of}
use Rattle.scenario_read.specs.Faults.{faults}
use Rattle.scenario_read.specs.Fields.{Field, either, faults_of, names, value_of}
use Rattle.scenario_read.specs.Readers.{Answers, Refuses}
use Rattle.scenario_read.proofs.KnownNames.{known-put}
use Rattle.scenario_read.proofs.NameOrder.{apart}
use Rattle.scenario_cut.specs.Beginning.{IsNoObject}
use Rattle.scenario_cut.proofs.Judging.{refuses-same}
use Rattle.scenario_checked.specs.Inside.{inner_cause, inner_scenario, scenario}
use Rattle.band_report.specs.declared.parts.Parts.{Parts}
use Rattle.band_report.specs.Asked.{section, pattern, travel, asked_shape}
use Rattle.band_report.specs.Parts.{AnswersAt, PartsStand, SaysCabinets, SaysNumber}

-- ---- one name

own-value : (f : Field) (d : Data) (ms : Members) → value_of f (object (put f.name d ms)) ≡ Some d
own-value f d ms = ap (λ (o : Option Data). either o f.default) (get_member-put f.name d ms)

other-value : (f : Field) (name : List ℕ) (d : Data) (ms : Members) → bytes_eq name f.name ≡ false → value_of f (object (put name d ms)) ≡ value_of f (object ms)
other-value f name d ms differ =
    ap (λ (o : Option Data). either o f.default)
    (get_member-put_other f.name name d ms (λ (same : f.name ≡ name). apart name f.name differ (sym same)))

-- what is put at a name is answered there
answer-new : {A : Type 0} (f : Field) (answer : Result A ReadFail) (Says : A → Data → Type 0) (d : Data) (ms : Members)
    → Answers answer (f.kind (then_named [] f.name) d) (λ a. Says a d) → AnswersAt f answer Says (put f.name d ms)
answer-new f answer Says d ms h =
    subst (λ (o : Option Data). Answers answer (faults_of f.kind (then_named [] f.name) o) (λ a. Says a (unwrap_or o null))) (sym (own-value f d ms)) h

-- and leaves the answers to the others
answer-kept : {A : Type 0} (f : Field) (answer : Result A ReadFail) (Says : A → Data → Type 0) (name : List ℕ) (d : Data) (ms : Members)
    → bytes_eq name f.name ≡ false → AnswersAt f answer Says ms → AnswersAt f answer Says (put name d ms)
answer-kept f answer Says name d ms differ h =
    subst (λ (o : Option Data). Answers answer (faults_of f.kind (then_named [] f.name) o) (λ a. Says a (unwrap_or o null))) (sym (other-value f name d ms differ)) h

-- ---- what is given as a scenario and is not an object

none-read : (fail : ReadFail) (d : Data) → IsNoObject d → Refuses fail (fault_at (then_named [] (codes "scenario")) Wrong) → Refuses fail (inner_scenario (then_named [] (codes "scenario")) d)
none-read fail null none h = refuses-same fail (fault_at (then_named [] (codes "scenario")) Wrong) (map inner_cause (faults null)) refl h
none-read fail (boolean b) none h = refuses-same fail (fault_at (then_named [] (codes "scenario")) Wrong) (map inner_cause (faults (boolean b))) refl h
none-read fail (number n) none h = refuses-same fail (fault_at (then_named [] (codes "scenario")) Wrong) (map inner_cause (faults (number n))) refl h
none-read fail (string s) none h = refuses-same fail (fault_at (then_named [] (codes "scenario")) Wrong) (map inner_cause (faults (string s))) refl h
none-read fail (array ds) none h = refuses-same fail (fault_at (then_named [] (codes "scenario")) Wrong) (map inner_cause (faults (array ds))) refl h
none-read fail (object ms) none h = absurd none

-- ---- the parts

module _ (old : Parts) (ms : Members) (d : Data) (stand : PartsStand old ms) where
  pub scenario-put : (answer : Result Scenario ReadFail) → Answers answer (inner_scenario (then_named [] (codes "scenario")) d) (λ s. SaysCabinets s d)
      → PartsStand (record { scenario = answer; section = old.section; pattern = old.pattern; travel = old.travel }) (put (codes "scenario") d ms)
  scenario-put answer h = record {
    known = known-put (names asked_shape.fields) [] (codes "scenario") d ms refl stand.known;
    scenario = answer-new scenario answer SaysCabinets d ms h;
    section = answer-kept section old.section SaysNumber (codes "scenario") d ms refl stand.section;
    pattern = answer-kept pattern old.pattern SaysNumber (codes "scenario") d ms refl stand.pattern;
    travel = answer-kept travel old.travel (λ found v. found.items ≡ list_in whole_of v) (codes "scenario") d ms refl stand.travel;
  }

  -- a scenario without faults
  pub scenario-right : (s : Scenario) → faults d ≡ [] → scenario_content s ≡ scenario_of d → length s.cabinets.items ≤ 64
      → PartsStand (record { scenario = Ok s; section = old.section; pattern = old.pattern; travel = old.travel }) (put (codes "scenario") d ms)
  scenario-right s clean said few = scenario-put (Ok s) (ap (map inner_cause) clean, (ap (λ (c : ScenarioContent). c.cabinets) said, few))

  -- what is not a scenario
  pub scenario-none : (fail : ReadFail) → IsNoObject d → Refuses fail (fault_at (then_named [] (codes "scenario")) Wrong)
      → PartsStand (record { scenario = Err fail; section = old.section; pattern = old.pattern; travel = old.travel }) (put (codes "scenario") d ms)
  scenario-none fail none h = scenario-put (Err fail) (none-read fail d none h)

  pub section-put : (answer : Result ℕ ReadFail) → Answers answer (whole 1 8 (then_named [] (codes "section")) d) (λ n. n ≡ whole_of d)
      → PartsStand (record { scenario = old.scenario; section = answer; pattern = old.pattern; travel = old.travel }) (put (codes "section") d ms)
  section-put answer h = record {
    known = known-put (names asked_shape.fields) [] (codes "section") d ms refl stand.known;
    scenario = answer-kept scenario old.scenario SaysCabinets (codes "section") d ms refl stand.scenario;
    section = answer-new section answer SaysNumber d ms h;
    pattern = answer-kept pattern old.pattern SaysNumber (codes "section") d ms refl stand.pattern;
    travel = answer-kept travel old.travel (λ found v. found.items ≡ list_in whole_of v) (codes "section") d ms refl stand.travel;
  }

  pub pattern-put : (answer : Result ℕ ReadFail) → Answers answer (whole 1 48 (then_named [] (codes "pattern")) d) (λ n. n ≡ whole_of d)
      → PartsStand (record { scenario = old.scenario; section = old.section; pattern = answer; travel = old.travel }) (put (codes "pattern") d ms)
  pattern-put answer h = record {
    known = known-put (names asked_shape.fields) [] (codes "pattern") d ms refl stand.known;
    scenario = answer-kept scenario old.scenario SaysCabinets (codes "pattern") d ms refl stand.scenario;
    section = answer-kept section old.section SaysNumber (codes "pattern") d ms refl stand.section;
    pattern = answer-new pattern answer SaysNumber d ms h;
    travel = answer-kept travel old.travel (λ found v. found.items ≡ list_in whole_of v) (codes "pattern") d ms refl stand.travel;
  }

  pub travel-put : (answer : Result (Vec ℕ Global) ReadFail) → Answers answer (travel.kind (then_named [] (codes "travel")) d) (λ found. found.items ≡ list_in whole_of d)
      → PartsStand (record { scenario = old.scenario; section = old.section; pattern = old.pattern; travel = answer }) (put (codes "travel") d ms)
  travel-put answer h = record {
    known = known-put (names asked_shape.fields) [] (codes "travel") d ms refl stand.known;
    scenario = answer-kept scenario old.scenario SaysCabinets (codes "travel") d ms refl stand.scenario;
    section = answer-kept section old.section SaysNumber (codes "travel") d ms refl stand.section;
    pattern = answer-kept pattern old.pattern SaysNumber (codes "travel") d ms refl stand.pattern;
    travel = answer-new travel answer (λ found v. found.items ≡ list_in whole_of v) d ms h;
  }
