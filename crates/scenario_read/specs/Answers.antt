-- What the reading of a scenario file answers.
use Rattle.std.specs.Prelude.{ℕ, ◌≡◌, List, [], Some, IsUtf8, string_bytes}
use Rattle.serde_json.specs.Data.{Data}
use Rattle.serde_json.specs.Read.{read}
use Rattle.scenario_data.specs.declared.refusal.Refusal.{Refusal}
use Rattle.scenario_data.specs.declared.refusal.Refusal.TheVariants.{Syntax, Field, Limit, Broken}
use Rattle.scenario_data.specs.declared.refusal.ReadFail.{ReadFail}
use Rattle.scenario_data.specs.declared.refusal.ReadFail.TheVariants.{Refused, NoMemory}
use Rattle.scenario_data.specs.Causes.{Names}
use Rattle.scenario_data.specs.Content.{ScenarioContent}
use Rattle.scenario_read.specs.Content.{scenario_of}
use Rattle.scenario_read.specs.Faults.{faults, first_cause}

-- if the failure is a refusal, `Is` holds for this refusal
abbrev pub OnRefusal : ReadFail → (Refusal → Type 0) → Type 0
OnRefusal (Refused refusal) Is = Is refusal
OnRefusal NoMemory Is = Unit {0}

-- the bytes are UTF-8, and they are a JSON text of this value
abbrev pub Reads : List ℕ → Data → Type 0
Reads bytes d = IsUtf8 bytes × (read bytes ≡ Some d)

-- the bytes are a scenario with this content: a JSON text of a value without faults
abbrev pub IsScenario : List ℕ → ScenarioContent → Type 0
IsScenario bytes content = (d : Data) × Reads bytes d × (faults d ≡ []) × (content ≡ scenario_of d)

-- the refusal names the first fault of the bytes. Syntax means that they aren't a JSON text; every other refusal
-- names the first fault of their value
abbrev pub IsFirstFault : List ℕ → Refusal → Type 0
IsFirstFault bytes Syntax = (d : Data) → Reads bytes d → ⊥
IsFirstFault bytes (Field path) = (d : Data) × Reads bytes d × Names (Field path) (first_cause (faults d))
IsFirstFault bytes (Limit path) = (d : Data) × Reads bytes d × Names (Limit path) (first_cause (faults d))
IsFirstFault bytes (Broken cabinet rule row) = (d : Data) × Reads bytes d × Names (Broken cabinet rule row) (first_cause (faults d))

-- both refusals name the same fault
abbrev pub SameFault : Refusal → Refusal → Type 0
SameFault Syntax Syntax = Unit {0}
SameFault (Field path) (Field other) = string_bytes path ≡ string_bytes other
SameFault (Limit path) (Limit other) = string_bytes path ≡ string_bytes other
SameFault (Broken cabinet rule row) (Broken other by at) = (cabinet ≡ other) × (rule ≡ by) × (row ≡ at)
SameFault _ _ = ⊥
