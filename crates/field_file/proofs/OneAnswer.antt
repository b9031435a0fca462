-- Bytes have one result, or a first fault, and never both.
use Rattle.std.proofs.Common.{◌≡◌, ℕ, List, sym, ap, ◌∙◌}
use Rattle.scenario_data.specs.declared.refusal.Refusal.{Refusal}
use Rattle.scenario_data.specs.declared.refusal.Refusal.TheVariants.{Syntax, Field, Limit, Broken}
use Rattle.scenario_read.specs.Answers.{SameFault}
use Rattle.scenario_read.proofs.OneAnswer.{one-value, IsFirstOf, none-beside, one-first}
use Rattle.field_file.specs.Written.{result_text}
use Rattle.field_file.specs.FieldAnswer.{result_faults, HasResult, TellsResult, IsFirstResultFault}

pub one-result : (bytes a b : List ℕ) → TellsResult bytes a → TellsResult bytes b → a ≡ b
one-result bytes a b (d, r, none, told) (e, s, clean, other) = told.whole ∙ ap result_text (one-value _ d e r.1 s.1) ∙ sym other.whole

first-of : (bytes : List ℕ) (refusal : Refusal) → IsFirstResultFault bytes refusal → IsFirstOf result_faults bytes refusal
first-of bytes Syntax h = h
first-of bytes (Field path) h = h
first-of bytes (Limit path) h = h
first-of bytes (Broken cabinet rule row) h = h

pub no-fault-beside : (bytes : List ℕ) (refusal : Refusal) → HasResult bytes → IsFirstResultFault bytes refusal → ⊥
no-fault-beside bytes refusal s h = none-beside result_faults bytes s.0 refusal s.1 s.2 (first-of bytes refusal h)

pub one-fault : (bytes : List ℕ) (a b : Refusal) → IsFirstResultFault bytes a → IsFirstResultFault bytes b → SameFault a b
one-fault bytes a b h k = one-first result_faults bytes a b (first-of bytes a h) (first-of bytes b k)
