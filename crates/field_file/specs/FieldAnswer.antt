-- The answer to a field file: the text of its result, or its first fault.
use Rattle.std.specs.Prelude.{ℕ, suc, ◌≡◌, ◌↔◌, ◌+◌, List, [], ◌∷◌, ◌++◌, length, codes, Option, Some, None, option_map}
use Rattle.serde_json.specs.Data.{Data}
use Rattle.scenario_data.specs.declared.refusal.Refusal.{Refusal}
use Rattle.scenario_data.specs.declared.refusal.Refusal.TheVariants.{Syntax, Field, Limit, Broken}
use Rattle.scenario_data.specs.declared.scenario.Entry.{Entry}
use Rattle.scenario_data.specs.Causes.{Cause, Names}
use Rattle.scenario_read.specs.Paths.{Named}
use Rattle.scenario_read.specs.Kinds.{fault_at, within}
use Rattle.scenario_read.specs.Content.{scenario_of}
use Rattle.scenario_read.specs.Faults.{first_cause}
use Rattle.scenario_read.specs.Answers.{Reads, IsScenario}
use Rattle.responsive.specs.Level.{Stays}
use Rattle.field_read.specs.Content.{RuleContent, FieldContent, field_of}
use Rattle.field_read.specs.Checks.{file_faults}
use Rattle.field_file.specs.declared.traffic.Traffic.{Traffic}
use Rattle.field_file.specs.Schedule.{volume, level_after}
use Rattle.field_file.specs.Written.{calls_of, counted, schedule_of, result_of, result_text}

-- the number of entries of a schedule; 0 if there is no schedule
abbrev pub entry_count : Option (List Entry) → ℕ
entry_count None = 0
entry_count (Some schedule) = length schedule

-- the result must have at most 1,000,000 inputs
abbrev pub inputs_faults : FieldContent → List Cause
inputs_faults f = fault_at (Named (codes "pulses") ∷ []) (within 0 1000000 (length f.scenario.inputs + length (calls_of f)))

-- the schedule must have at most 1,000 entries
abbrev pub entries_faults : FieldContent → List Cause
entries_faults f = fault_at (Named (codes "respond") ∷ []) (within 0 1000 (entry_count (schedule_of f)))

-- the text of the result must have at most 16,777,216 bytes, with its newline
abbrev pub bytes_faults : List ℕ → List Cause
bytes_faults text = fault_at (Named (codes "scenario") ∷ []) (within 0 16777216 (length text))

-- the faults of the size of the result
abbrev pub size_faults : Data → List Cause
size_faults d = inputs_faults (field_of d) ++ (entries_faults (field_of d) ++ bytes_faults (result_text d))

-- all faults of a field file: those of the file, in the order of the checks, then those of the size of its result
abbrev pub result_faults : Data → List Cause
result_faults d = file_faults d ++ size_faults d

-- a level of the schedule stays the same after a period exactly if the volume reaches no step above it, and it is 0
-- or the volume holds it
abbrev pub LevelsStay : FieldContent → Type 0
LevelsStay f =
    (period : ℕ) (rule : RuleContent) (n : ℕ)
    → (level_after (counted f period) rule (suc n) ≡ level_after (counted f period) rule n)
    ↔ Stays rule.steps (level_after (counted f period) rule n) (volume (counted f period) rule.section n)

-- the text is the result of this value as a field file, and it is a scenario. The levels of its schedule stay as
-- `LevelsStay` states
pub record TellsOf (d : Data) (text : List ℕ) : Type 0 where
  pub whole : text ≡ result_text d
  pub read : IsScenario text (scenario_of (result_of d))
  pub levels : LevelsStay (field_of d)

-- the bytes are a field file without a fault
abbrev pub HasResult : List ℕ → Type 0
HasResult bytes = (d : Data) × Reads bytes d × (result_faults d ≡ [])

-- the bytes are a field file without a fault, and the text is its result
abbrev pub TellsResult : List ℕ → List ℕ → Type 0
TellsResult bytes text = (d : Data) × Reads bytes d × (result_faults d ≡ []) × TellsOf d text

-- the refusal names the first fault of the bytes. Syntax means that they aren't a JSON text; every other refusal
-- names the first fault of their value
abbrev pub IsFirstResultFault : List ℕ → Refusal → Type 0
IsFirstResultFault bytes Syntax = (d : Data) → Reads bytes d → ⊥
IsFirstResultFault bytes (Field path) = (d : Data) × Reads bytes d × Names (Field path) (first_cause (result_faults d))
IsFirstResultFault bytes (Limit path) = (d : Data) × Reads bytes d × Names (Limit path) (first_cause (result_faults d))
IsFirstResultFault bytes (Broken cabinet rule row) = (d : Data) × Reads bytes d × Names (Broken cabinet rule row) (first_cause (result_faults d))

-- what was read is what the value describes, and the value has no fault of a field file
pub record WasRead (f : FieldContent) (d : Data) : Type 0 where
  pub clean : file_faults d ≡ []
  pub said : f ≡ field_of d

-- the traffic is that of the field file: the calls of its bank, and the schedule of its rules, if it has any
pub record IsTraffic (traffic : Traffic) (f : FieldContent) : Type 0 where
  pub calls : traffic.calls.items ≡ calls_of f
  pub schedule : option_map (λ v. v.items) traffic.schedule ≡ schedule_of f
