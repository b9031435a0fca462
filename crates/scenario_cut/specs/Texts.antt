-- Texts that aren't JSON.
use Rattle.std.specs.Prelude.{ℕ, ◌≡◌, List}
use Rattle.serde_json.specs.Data.{Data}
use Rattle.scenario_data.specs.declared.refusal.Refusal.{Refusal}
use Rattle.scenario_data.specs.declared.refusal.Refusal.TheVariants.{Syntax}
use Rattle.scenario_read.specs.Answers.{Reads}

-- the refusal says that the bytes aren't JSON, and they aren't
abbrev pub IsNoText : List ℕ → Refusal → Type 0
IsNoText bytes refusal = (refusal ≡ Syntax) × ((d : Data) → Reads bytes d → ⊥)
