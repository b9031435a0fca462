-- What the reading of a field file answers.
use Rattle.std.specs.Prelude.{ℕ, ◌≡◌, List, []}
use Rattle.serde_json.specs.Data.{Data}
use Rattle.scenario_data.specs.declared.refusal.Refusal.{Refusal}
use Rattle.scenario_data.specs.declared.refusal.Refusal.TheVariants.{Syntax, Field, Limit, Broken}
use Rattle.scenario_data.specs.Causes.{Names}
use Rattle.scenario_read.specs.Faults.{first_cause}
use Rattle.scenario_read.specs.Answers.{Reads}
use Rattle.field_read.specs.Content.{FieldContent, field_of}
use Rattle.field_read.specs.Checks.{file_faults}

-- the bytes are a field file with this content
abbrev pub IsField : List ℕ → FieldContent → Type 0
IsField bytes content = (d : Data) × Reads bytes d × (file_faults d ≡ []) × (content ≡ field_of d)

-- the refusal names the first fault of the bytes. Syntax means that they aren't a JSON text; every other refusal
-- names the first fault of their value
abbrev pub IsFirstFieldFault : List ℕ → Refusal → Type 0
IsFirstFieldFault bytes Syntax = (d : Data) → Reads bytes d → ⊥
IsFirstFieldFault bytes (Field path) = (d : Data) × Reads bytes d × Names (Field path) (first_cause (file_faults d))
IsFirstFieldFault bytes (Limit path) = (d : Data) × Reads bytes d × Names (Limit path) (first_cause (file_faults d))
IsFirstFieldFault bytes (Broken cabinet rule row) = (d : Data) × Reads bytes d × Names (Broken cabinet rule row) (first_cause (file_faults d))
