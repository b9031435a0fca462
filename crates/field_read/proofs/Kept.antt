-- What is kept of a field file's value has its first fault; where it has none, that is the value.
use Rattle.std.proofs.Common.{◌≡◌, ◌≤◌, ◌<◌, ℕ, ◌&&◌, nat_le, Bool, true, false, List, [], ◌∷◌, map, codes, Option, Some, None, option_map, is_some, unwrap_or, refl, sym, ap, ◌∙◌, subst, arith}
use Rattle.std.proofs.lemmas.Bool.{leb-false}
use Rattle.serde_json.specs.Data.{Data, null, boolean, number, string, array, object, depth}
use Rattle.serde_json.specs.Events.{items_len}
use Rattle.serde_json.specs.Find.{get}
use Rattle.serde_json.specs.Read.{max_depth}
use Rattle.serde_json.proofs.Nesting.{depth-read}
use Rattle.scenario_data.specs.declared.refusal.ReadFail.{ReadFail}
use Rattle.scenario_data.specs.declared.refusal.ReadFail.TheVariants.{Refused, NoMemory}
use Rattle.scenario_data.specs.declared.refusal.Refusal.{Refusal}
use Rattle.scenario_data.specs.declared.refusal.Refusal.TheVariants.{Syntax, Field as FieldRefusal, Limit, Broken}
use Rattle.scenario_data.specs.Causes.{Cause, Names}
use Rattle.scenario_read.specs.Answers.{Reads, OnRefusal}
use Rattle.scenario_read.specs.Content.{round_count, cabinet_count}
use Rattle.scenario_read.specs.Faults.{faults, first_cause}
use Rattle.scenario_read.specs.Fields.{either, held, faults_of, field_faults, fields_faults, names, known_fields, unknown_faults, object_of}
use Rattle.scenario_read.specs.Kinds.{list_of}
use Rattle.scenario_read.specs.Paths.{Step, then_named}
use Rattle.scenario_read.specs.Readers.{Refuses}
use Rattle.scenario_read.specs.Sorted.{Sorted}
use Rattle.scenario_read.specs.Table.{round, cabinet_number, on}
use Rattle.scenario_read.proofs.NoFaults.{none-left}
use Rattle.scenario_read.proofs.Rising.{read-sorted}
use Rattle.scenario_cut.specs.declared.form.Form.TheVariants.{Field, Whole, Pulse, Entries, Entry, Respond, Sections, Section, Steps, Step as StepForm}
use Rattle.scenario_cut.specs.Cutting.{is_of_a_round, cut}
use Rattle.scenario_cut.specs.Texts.{IsNoText}
use Rattle.scenario_cut.proofs.Same.{Same, Faulty, same-both, same-ended, faulty-first, faulty-later, same-map, map-none, same-more, kept-right}
use Rattle.scenario_cut.proofs.Members.{IsObject, object-same, held-cut, get-cut}
use Rattle.scenario_cut.proofs.Items.{KeepsItem, PulseStops, few-same, pulses-same}
use Rattle.scenario_cut.proofs.Kept.{whole-same, flag-same, le-of, entries-same, object-stops}
use Rattle.scenario_cut.proofs.Scenario.{first-kept, rounds-same, cabinets_in, count-same, count-fault}
use Rattle.scenario_cut.proofs.Entire.{Entire, whole-entire, flag-entire, list-entire, counted-entire, entries-entire, pulses-entire, object-entire, faultless-entire}
use Rattle.scenario_cut.proofs.Shapes.{sorted-kept, depth-kept}
use Rattle.scenario_checked.specs.Inside.{inner_cause, inner_scenario, scenario}
use Rattle.field_read.specs.Table.{detector, detector_shape, pulse_shape, step_shape, section_shape, respond_shape, traffic_fields, field_shape}
use Rattle.field_read.specs.Content.{field_of, rounds_run, cabinets_run}
use Rattle.field_read.specs.Checks.{named_faults, across_faults, file_faults}
use Rattle.field_read.specs.Answers.{IsFirstFieldFault}

-- ---- the scenario

scenario-same : KeepsItem Whole inner_scenario
scenario-same path d = same-map inner_cause (faults (cut Whole d)) (faults d) (first-kept d)

scenario-entire : Entire Whole inner_scenario
scenario-entire path d sorted e = faultless-entire d sorted (map-none inner_cause (faults d) e)

-- ---- detectors and pulses

is-entry : IsObject Entry
is-entry = record { opens = refl; closed = refl }

detector-same : (cabinets : ℕ) → KeepsItem Entry (object_of (detector_shape cabinets))
detector-same cabinets path d =
    object-same Entry is-entry (detector_shape cabinets) refl path d
    (whole-same 1 cabinets, (whole-same 1 64, (whole-same 1 16, (whole-same 0 255, (whole-same 0 255, (whole-same 0 65535, (whole-same 0 65535, (whole-same 0 255, tt)))))))) tt

pub bank-same : (cabinets : ℕ) → KeepsItem Entries (list_of 0 512 (object_of (detector_shape cabinets)))
bank-same cabinets = entries-same 512 (omega arith) (object_of (detector_shape cabinets)) (detector-same cabinets)

detector-entire : (cabinets : ℕ) → Entire Entry (object_of (detector_shape cabinets))
detector-entire cabinets =
    object-entire Entry is-entry (detector_shape cabinets) refl
    (whole-entire 1 cabinets, (whole-entire 1 64, (whole-entire 1 16, (whole-entire 0 255, (whole-entire 0 255, (whole-entire 0 65535, (whole-entire 0 65535, (whole-entire 0 255, tt)))))))) tt

is-pulse : IsObject Pulse
is-pulse = record { opens = refl; closed = refl }

pub pulse-same : (rounds cabinets : ℕ) → KeepsItem Pulse (object_of (pulse_shape rounds cabinets))
pulse-same rounds cabinets path d =
    object-same Pulse is-pulse (pulse_shape rounds cabinets) refl path d (whole-same 1 rounds, (whole-same 1 cabinets, (whole-same 1 64, (flag-same, tt)))) tt

pulse-entire : (rounds cabinets : ℕ) → Entire Pulse (object_of (pulse_shape rounds cabinets))
pulse-entire rounds cabinets =
    object-entire Pulse is-pulse (pulse_shape rounds cabinets) refl (whole-entire 1 rounds, (whole-entire 1 cabinets, (whole-entire 1 64, (flag-entire, tt)))) tt

-- a pulse of a round and a cabinet that has no detector, or is neither on nor off
undetected : (rounds cabinets : ℕ) (path : List Step) (d : Data) → (is_some (get (codes "detector") d) && is_some (get (codes "on") d)) ≡ false → Faulty (fields_faults path d (pulse_shape rounds cabinets).fields)
undetected rounds cabinets path d none =
    faulty-later (field_faults path d (round rounds)) _ (faulty-later (field_faults path d (cabinet_number cabinets)) _ (at (get (codes "detector") d) (get (codes "on") d) refl refl none))
  where
    at : (a b : Option Data) → get (codes "detector") d ≡ a → get (codes "on") d ≡ b → (is_some a && is_some b) ≡ false → Faulty (fields_faults path d (detector ∷ on ∷ []))
    at None b is was none = faulty-first (field_faults path d detector) _ (subst (λ o. Faulty (faults_of detector.kind (then_named path (codes "detector")) (either o None))) (sym is) tt)
    at (Some v) None is was none = faulty-later (field_faults path d detector) _ (faulty-first (field_faults path d on) _ (subst (λ o. Faulty (faults_of on.kind (then_named path (codes "on")) (either o None))) (sym was) tt))
    at (Some v) (Some w) is was none = absurd (cc)

pulse-stops : (rounds cabinets : ℕ) → PulseStops (object_of (pulse_shape rounds cabinets))
pulse-stops rounds cabinets path null none = tt
pulse-stops rounds cabinets path (boolean b) none = tt
pulse-stops rounds cabinets path (number n) none = tt
pulse-stops rounds cabinets path (string s) none = tt
pulse-stops rounds cabinets path (array ds) none = tt
pulse-stops rounds cabinets path (object ms) none = at (is_of_a_round (object ms)) refl none
  where
    known : List (List ℕ)
    known = names (known_fields (pulse_shape rounds cabinets) (object ms))

    at : (b : Bool) → is_of_a_round (object ms) ≡ b → (b && (is_some (get (codes "detector") (object ms)) && is_some (get (codes "on") (object ms)))) ≡ false
        → Faulty (object_of (pulse_shape rounds cabinets) path (object ms))
    at true is k = faulty-later (unknown_faults known path ms) _ (faulty-first (fields_faults path (object ms) (pulse_shape rounds cabinets).fields) _ (undetected rounds cabinets path (object ms) k))
    at false is k = object-stops rounds cabinets (detector ∷ on ∷ []) [] path (object ms) is

-- ---- the rules of the sections

is-step : IsObject StepForm
is-step = record { opens = refl; closed = refl }

step-same : KeepsItem StepForm (object_of step_shape)
step-same path d = object-same StepForm is-step step_shape refl path d (whole-same 1 1000000, (whole-same 1 1000000, (whole-same 0 255, tt))) tt

step-entire : Entire StepForm (object_of step_shape)
step-entire = object-entire StepForm is-step step_shape refl (whole-entire 1 1000000, (whole-entire 1 1000000, (whole-entire 0 255, tt))) tt

steps-same : KeepsItem Steps (list_of 0 8 (object_of step_shape))
steps-same path d = few-same Steps (record { opens = refl; closed = refl }) (λ n d. refl) 0 8 (omega arith) (object_of step_shape) step-same path d

steps-entire : Entire Steps (list_of 0 8 (object_of step_shape))
steps-entire =
    list-entire Steps (record { opens = refl; closed = refl }) 0 8 (object_of step_shape)
    (λ path ds sorted few e. let low = le-of (items_len ds) 8 few in counted-entire StepForm (object_of step_shape) step-entire (λ n d. refl) path 9 0 ds sorted (omega (arith, low)) e)

is-section : IsObject Section
is-section = record { opens = refl; closed = refl }

section-same : KeepsItem Section (object_of section_shape)
section-same path d =
    object-same Section is-section section_shape refl path d (whole-same 1 8, (whole-same 0 255, (steps-same, tt))) tt

section-entire : Entire Section (object_of section_shape)
section-entire = object-entire Section is-section section_shape refl (whole-entire 1 8, (whole-entire 0 255, (steps-entire, tt))) tt

sections-same : KeepsItem Sections (list_of 1 8 (object_of section_shape))
sections-same path d =
    few-same Sections (record { opens = refl; closed = refl }) (λ n d. refl) 1 8 (omega arith) (object_of section_shape) section-same path d

sections-entire : Entire Sections (list_of 1 8 (object_of section_shape))
sections-entire =
    list-entire Sections (record { opens = refl; closed = refl }) 1 8 (object_of section_shape)
    (λ path ds sorted few e. let low = le-of (items_len ds) 8 few in counted-entire Section (object_of section_shape) section-entire (λ n d. refl) path 9 0 ds sorted (omega (arith, low)) e)

is-respond : IsObject Respond
is-respond = record { opens = refl; closed = refl }

pub respond-same : KeepsItem Respond (object_of respond_shape)
respond-same path d = object-same Respond is-respond respond_shape refl path d (whole-same 1 3600, (sections-same, tt)) tt

respond-entire : Entire Respond (object_of respond_shape)
respond-entire = object-entire Respond is-respond respond_shape refl (whole-entire 1 3600, (sections-entire, tt)) tt

-- ---- the whole

is-field : IsObject Field
is-field = record { opens = refl; closed = refl }

rounds-kept : (d : Data) → rounds_run (cut Field d) ≡ rounds_run d
rounds-kept = held-cut Field is-field scenario refl round_count rounds-same

-- the cabinets in the scenario that is there
abbrev inner_cabinets : Data → ℕ
inner_cabinets d = cabinets_in (held scenario d)

cabinets-kept : (d : Data) → inner_cabinets d ≤ 64 → cabinets_run (cut Field d) ≡ cabinets_run d
cabinets-kept d few = ap (λ o. cabinet_count (unwrap_or (either o None) null)) (get-cut Field is-field (codes "scenario") refl d) ∙ at (get (codes "scenario") d) few
  where
    at : (o : Option Data) → cabinets_in (unwrap_or (either o None) null) ≤ 64 → cabinet_count (unwrap_or (either (option_map (cut Whole) o) None) null) ≡ cabinet_count (unwrap_or (either o None) null)
    at None low = refl
    at (Some v) low = count-same v low

-- more cabinets than a scenario may have are a fault of the scenario, before all that hangs on their number
map-faulty : (f : Cause → Cause) (xs : List Cause) → Faulty xs → Faulty (map f xs)
map-faulty f [] some = absurd some
map-faulty f (x ∷ xs) some = tt

many-cabinets : (d : Data) → 64 < inner_cabinets d → Faulty (field_faults [] d scenario)
many-cabinets d many = at (get (codes "scenario") d) many
  where
    at : (o : Option Data) → 64 < cabinets_in (unwrap_or (either o None) null) → Faulty (faults_of inner_scenario (then_named [] (codes "scenario")) (either o None))
    at None low = tt
    at (Some v) low = map-faulty inner_cause (faults v) (count-fault v low)

counts-same : (rounds n k : ℕ) (d : Data) → Faulty (field_faults [] d scenario) → Same (object_of (field_shape rounds n) [] d) (object_of (field_shape rounds k) [] d)
counts-same rounds n k null some = refl
counts-same rounds n k (boolean b) some = refl
counts-same rounds n k (number m) some = refl
counts-same rounds n k (string s) some = refl
counts-same rounds n k (array ds) some = refl
counts-same rounds n k (object ms) some =
    let d = object ms in
    let unknown = unknown_faults (names (known_fields (field_shape rounds n) d)) [] ms in
    same-both unknown unknown _ _ refl
    (same-both (fields_faults [] d (field_shape rounds n).fields) (fields_faults [] d (field_shape rounds k).fields) [] []
    (same-ended (field_faults [] d scenario) (field_faults [] d scenario) (fields_faults [] d (traffic_fields rounds n)) (fields_faults [] d (traffic_fields rounds k)) refl some) refl)

shape-same : (rounds cabinets : ℕ) (d : Data) → Same (object_of (field_shape rounds cabinets) [] (cut Field d)) (object_of (field_shape rounds cabinets) [] d)
shape-same rounds cabinets d =
    object-same Field is-field (field_shape rounds cabinets) refl [] d
    (scenario-same, (bank-same cabinets, (pulses-same 1000000 (object_of (pulse_shape rounds cabinets)) (pulse-same rounds cabinets) (pulse-stops rounds cabinets), (respond-same, tt)))) tt

names-same : (d : Data) → Same (named_faults (cut Field d)) (named_faults d)
names-same d =
    ap (λ r. first_cause (object_of (field_shape r (cabinets_run (cut Field d))) [] (cut Field d))) (rounds-kept d)
    ∙ shape-same (rounds_run d) (cabinets_run (cut Field d)) d ∙ at (nat_le (inner_cabinets d) 64) refl
  where
    at : (b : Bool) → nat_le (inner_cabinets d) 64 ≡ b → Same (object_of (field_shape (rounds_run d) (cabinets_run (cut Field d))) [] d) (object_of (field_shape (rounds_run d) (cabinets_run d)) [] d)
    at true few = ap (λ c. first_cause (object_of (field_shape (rounds_run d) c) [] d)) (cabinets-kept d (le-of (inner_cabinets d) 64 few))
    at false many = counts-same (rounds_run d) (cabinets_run (cut Field d)) (cabinets_run d) d (many-cabinets d (leb-false (inner_cabinets d) 64 many))

shape-entire : (rounds cabinets : ℕ) → Entire Field (object_of (field_shape rounds cabinets))
shape-entire rounds cabinets =
    object-entire Field is-field (field_shape rounds cabinets) refl
    (scenario-entire, (entries-entire 512 (omega arith) (object_of (detector_shape cabinets)) (detector-entire cabinets), (pulses-entire 1000000 (object_of (pulse_shape rounds cabinets)) (pulse-entire rounds cabinets) (pulse-stops rounds cabinets), (respond-entire, tt)))) tt

names-entire : (d : Data) → Sorted d → named_faults d ≡ [] → cut Field d ≡ d
names-entire d sorted e = shape-entire (rounds_run d) (cabinets_run d) [] d sorted e

abbrev across : Data → List Cause
across d = across_faults (field_of d)

field-same : (d : Data) → Sorted d → Same (file_faults (cut Field d)) (file_faults d)
field-same d sorted = same-more named_faults across (cut Field d) d (names-same d) (names-entire d sorted)

-- ---- its text

module _ (bytes : List ℕ) (d v : Data) (reads : Reads bytes d) (is : v ≡ cut Field d) where
  sorted : Sorted d
  sorted = read-sorted bytes d reads.1

  same : Same (file_faults v) (file_faults d)
  same = ap (λ w. first_cause (file_faults w)) is ∙ field-same d sorted

  pub kept-sorted : Sorted v
  kept-sorted = subst Sorted (sym is) (sorted-kept Field d sorted)

  pub kept-low : depth v ≤ max_depth
  kept-low = subst (λ w. depth w ≤ max_depth) (sym is) (omega (arith, depth-kept Field d, depth-read bytes d reads.1))

  -- what is kept of the value of a text, where it has no faults, is the value
  pub field-right : file_faults v ≡ [] → v ≡ d
  field-right none = kept-right file_faults v d same (λ clean. is ∙ names-entire d sorted (none-left (named_faults d) (across d) clean).0) none

  named : (refusal : Refusal) → Names refusal (first_cause (file_faults d)) → IsFirstFieldFault bytes refusal
  named Syntax h = absurd h
  named (FieldRefusal path) h = (d, reads, h)
  named (Limit path) h = (d, reads, h)
  named (Broken cabinet rule row) h = (d, reads, h)

  -- its first fault is that of the text
  pub field-refused : (fail : ReadFail) → Refuses fail (file_faults v) → OnRefusal fail (IsFirstFieldFault bytes)
  field-refused (Refused refusal) h = named refusal (subst (λ o. Names refusal o) same h)
  field-refused NoMemory h = tt

-- bytes that are not JSON have that as their first fault
pub no-field : (bytes : List ℕ) (fail : ReadFail) → OnRefusal fail (IsNoText bytes) → OnRefusal fail (IsFirstFieldFault bytes)
no-field bytes (Refused refusal) none = subst (IsFirstFieldFault bytes) (sym none.0) none.1
no-field bytes NoMemory none = tt
