-- The faults of a scenario as plain values, and which fault a refusal names.
use Rattle.std.specs.Prelude.{ℕ, ◌≡◌, List, Option, Some, string_bytes}
use Rattle.scenario_data.specs.declared.refusal.Refusal.{Refusal}
use Rattle.scenario_data.specs.declared.refusal.Refusal.TheVariants.{Syntax, Field as FieldRefusal, Limit as LimitRefusal, Broken as BrokenRefusal}

-- a fault of a scenario: a field or a limit at a path, or a rule that the tables of a cabinet break in a row. A path
-- is a text
pub data Cause : Type 0 where
  Field : (path : List ℕ) → Cause
  Limit : (path : List ℕ) → Cause
  Broken : (cabinet rule row : ℕ) → Cause

-- the refusal names this fault. Syntax names no fault, because a text that can't be read as JSON has no value
abbrev pub Names : Refusal → Option Cause → Type 0
Names Syntax cause = ⊥
Names (FieldRefusal path) cause = cause ≡ Some (Field (string_bytes path))
Names (LimitRefusal path) cause = cause ≡ Some (Limit (string_bytes path))
Names (BrokenRefusal cabinet rule row) cause = cause ≡ Some (Broken cabinet rule row)
