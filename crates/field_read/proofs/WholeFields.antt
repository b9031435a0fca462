-- A field file from its parts: the faults of its names, and then those across its lists.
use Rattle.std.proofs.Common.{◌≡◌, ℕ, List, [], ◌++◌, Option, refl, subst}
use Rattle.serde_json.specs.Data.{Data}
use Rattle.scenario_data.specs.declared.refusal.ReadFail.{ReadFail}
use Rattle.scenario_data.specs.declared.refusal.ReadFail.TheVariants.{Refused, NoMemory}
use Rattle.scenario_data.specs.declared.refusal.Refusal.{Refusal}
use Rattle.scenario_data.specs.declared.refusal.Refusal.TheVariants.{Syntax, Field as FieldRefusal, Limit, Broken}
use Rattle.scenario_data.specs.Causes.{Cause, Names}
use Rattle.scenario_data.specs.Content.{ScenarioContent}
use Rattle.scenario_read.specs.Fields.{names, known_fields, field_faults, fields_faults}
use Rattle.scenario_read.specs.Faults.{first_cause}
use Rattle.scenario_read.specs.Readers.{Refuses, names_faults}
use Rattle.scenario_read.specs.Answers.{Reads, OnRefusal}
use Rattle.scenario_read.proofs.Objects.{known-object}
use Rattle.scenario_read.proofs.Refusing.{refuses_more}
use Rattle.scenario_checked.specs.Inside.{scenario}
use Rattle.detector_bank.specs.declared.bank.Detector.{Detector}
use Rattle.detector_bank.specs.declared.bank.Pulse.{Pulse}
use Rattle.field_read.specs.Table.{traffic_fields, field_shape}
use Rattle.field_read.specs.Content.{FieldContent, RespondContent, rounds_run, cabinets_run, field_of}
use Rattle.field_read.specs.Checks.{named_faults, across_faults, file_faults}
use Rattle.field_read.specs.Answers.{IsFirstFieldFault}

-- where all names are known, the faults are those of the scenario and of what is next to it
pub two-parts : (d : Data) → names_faults (names (known_fields (field_shape (rounds_run d) (cabinets_run d)) d)) [] d ≡ []
    → named_faults d ≡ (field_faults [] d scenario ++ fields_faults [] d (traffic_fields (rounds_run d) (cabinets_run d))) ++ []
two-parts d e = known-object (field_shape (rounds_run d) (cabinets_run d)) [] d e

pub at-first : (fail : ReadFail) (a b : List Cause) → Refuses fail a → Refuses fail ((a ++ b) ++ [])
at-first fail a b h = refuses_more fail (a ++ b) [] (refuses_more fail a b h)

pub at-second : (fail : ReadFail) (a b : List Cause) → a ≡ [] → Refuses fail b → Refuses fail ((a ++ b) ++ [])
at-second fail a b none h = rw none (refuses_more fail b [] h)

pub none-of-two : (a b : List Cause) → a ≡ [] → b ≡ [] → (a ++ b) ++ [] ≡ []
none-of-two a b p q = rw (p, q) refl

pub content-from : (s : ScenarioContent) (bank : List Detector) (pulses : List Pulse) (respond : Option RespondContent) (f : FieldContent)
    → s ≡ f.scenario → bank ≡ f.bank → pulses ≡ f.pulses → respond ≡ f.respond → record { scenario = s; bank = bank; pulses = pulses; respond = respond } ≡ f
content-from s bank pulses respond f p q r t = rw (p, q, r, t) refl

-- a fault across the lists, where the names have none
pub across-refused : (fail : ReadFail) (f : FieldContent) (d : Data) → named_faults d ≡ [] → f ≡ field_of d → Refuses fail (across_faults f) → Refuses fail (file_faults d)
across-refused fail f d none is h =
    let here : Refuses fail (across_faults (field_of d)) = subst (λ (g : FieldContent). Refuses fail (across_faults g)) is h in
    rw none here

pub across-clean : (f : FieldContent) (d : Data) → named_faults d ≡ [] → f ≡ field_of d → across_faults f ≡ [] → file_faults d ≡ []
across-clean f d none is h =
    let here : across_faults (field_of d) ≡ [] = subst (λ (g : FieldContent). across_faults g ≡ []) is h in
    rw none here

named-first : (bytes : List ℕ) (d : Data) (refusal : Refusal) → Reads bytes d → Names refusal (first_cause (file_faults d)) → IsFirstFieldFault bytes refusal
named-first bytes d Syntax reads h = absurd h
named-first bytes d (FieldRefusal path) reads h = (d, reads, h)
named-first bytes d (Limit path) reads h = (d, reads, h)
named-first bytes d (Broken cabinet rule row) reads h = (d, reads, h)

-- the first fault of a value is that of its text
pub refused-first : (bytes : List ℕ) (d : Data) (fail : ReadFail) → Reads bytes d → Refuses fail (file_faults d) → OnRefusal fail (IsFirstFieldFault bytes)
refused-first bytes d (Refused refusal) reads h = named-first bytes d refusal reads h
refused-first bytes d NoMemory reads h = tt
