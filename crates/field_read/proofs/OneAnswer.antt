-- Bytes are one field file, or have a first fault, and never both.
use Rattle.std.proofs.Common.{◌≡◌, ℕ, List, sym, ap, ◌∙◌}
use Rattle.scenario_data.specs.declared.refusal.Refusal.{Refusal}
use Rattle.scenario_data.specs.declared.refusal.Refusal.TheVariants.{Syntax, Field, Limit, Broken}
use Rattle.scenario_read.specs.Answers.{SameFault}
use Rattle.scenario_read.proofs.OneAnswer.{one-value, IsFirstOf, none-beside, one-first}
use Rattle.field_read.specs.Content.{FieldContent, field_of}
use Rattle.field_read.specs.Checks.{file_faults}
use Rattle.field_read.specs.Answers.{IsField, IsFirstFieldFault}

pub one-field : (bytes : List ℕ) (a b : FieldContent) → IsField bytes a → IsField bytes b → a ≡ b
one-field bytes a b (d, r, none, is) (e, s, clean, so) = is ∙ ap field_of (one-value _ d e r.1 s.1) ∙ sym so

first-of : (bytes : List ℕ) (refusal : Refusal) → IsFirstFieldFault bytes refusal → IsFirstOf file_faults bytes refusal
first-of bytes Syntax h = h
first-of bytes (Field path) h = h
first-of bytes (Limit path) h = h
first-of bytes (Broken cabinet rule row) h = h

pub no-fault-beside : (bytes : List ℕ) (a : FieldContent) (refusal : Refusal) → IsField bytes a → IsFirstFieldFault bytes refusal → ⊥
no-fault-beside bytes a refusal s h = none-beside file_faults bytes s.0 refusal s.1 s.2 (first-of bytes refusal h)

pub one-fault : (bytes : List ℕ) (a b : Refusal) → IsFirstFieldFault bytes a → IsFirstFieldFault bytes b → SameFault a b
one-fault bytes a b h k = one-first file_faults bytes a b (first-of bytes a h) (first-of bytes b k)
