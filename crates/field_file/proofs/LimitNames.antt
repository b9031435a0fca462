-- No limit of a field file or its result is that of the whole: each has the name of what is beyond it.
use Rattle.std.proofs.Common.{◌≡◌, ◌+◌, ℕ, false, List, [], ◌∷◌, ◌++◌, length, codes, Some, bytes_eq, String, string_bytes, subst, sym, ◌∙◌, refl}
use Rattle.std.proofs.lemmas.Bool.{false≢true}
use Rattle.std.proofs.lemmas.Slice.Eq.{bytes_eq-Decides}
use Rattle.std.specs.declared.alloc.Global.{Global}
use Rattle.serde_json.specs.Data.{Data}
use Rattle.scenario_data.specs.declared.refusal.Refusal.TheVariants.{Limit as LimitRefusal}
use Rattle.scenario_data.specs.Causes.{Cause, Limit as LimitCause}
use Rattle.scenario_read.specs.Kinds.{Fit, Fits, Wrong, Beyond, fault_at, within}
use Rattle.scenario_read.specs.Paths.{Named}
use Rattle.scenario_read.specs.Faults.{first_cause}
use Rattle.scenario_read.specs.Answers.{Reads}
use Rattle.field_read.specs.Content.{field_of}
use Rattle.field_read.specs.Checks.{file_faults}
use Rattle.field_read.proofs.LimitNames.{limit-elsewhere}
use Rattle.field_file.specs.Written.{calls_of, schedule_of, result_text}
use Rattle.field_file.specs.FieldAnswer.{entry_count, entries_faults, bytes_faults, size_faults, IsFirstResultFault}

not-dot : (name : List ℕ) → bytes_eq name (codes ".") ≡ false → name ≡ codes "." → ⊥
not-dot name other e = false≢true (sym other ∙ (bytes_eq-Decides name (codes ".")).1 e)

-- a limit at one of these names is not that of the whole
at-name : (name : List ℕ) (fit : Fit) (more : List Cause) (path : List ℕ) → (name ++ [] ≡ codes "." → ⊥) → (first_cause more ≡ Some (LimitCause path) → path ≡ codes "." → ⊥)
    → first_cause (fault_at (Named name ∷ []) fit ++ more) ≡ Some (LimitCause path) → path ≡ codes "." → ⊥
at-name name Fits more path differs rest first e = rest first e
at-name name Wrong more path differs rest first e = absurd (cc)
at-name name Beyond more path differs rest first e = let same : name ++ [] ≡ path = cc in differs (cc)

size-elsewhere : (d : Data) (path : List ℕ) → first_cause (size_faults d) ≡ Some (LimitCause path) → path ≡ codes "." → ⊥
size-elsewhere d path first e =
    let bytes : first_cause (bytes_faults (result_text d)) ≡ Some (LimitCause path) → path ≡ codes "." → ⊥ = λ at is. last (within 0 16777216 (length (result_text d))) at is in
    let entries : first_cause (entries_faults (field_of d) ++ bytes_faults (result_text d)) ≡ Some (LimitCause path) → path ≡ codes "." → ⊥ =
    at-name (codes "respond") (within 0 1000 (entry_count (schedule_of (field_of d)))) (bytes_faults (result_text d)) path (not-dot (codes "respond" ++ []) refl) bytes in
    at-name (codes "pulses") (within 0 1000000 (length (field_of d).scenario.inputs + length (calls_of (field_of d)))) (entries_faults (field_of d) ++ bytes_faults (result_text d)) path
    (not-dot (codes "pulses" ++ []) refl) entries first e
  where
    last : (fit : Fit) → first_cause (fault_at (Named (codes "scenario") ∷ []) fit) ≡ Some (LimitCause path) → path ≡ codes "." → ⊥
    last Fits at is = absurd (cc)
    last Wrong at is = absurd (cc)
    last Beyond at is = let same : codes "scenario" ++ [] ≡ path = cc in not-dot (codes "scenario" ++ []) refl (same ∙ is)

either-first : (bytes : List ℕ) (d : Data) (path : String Global) (own more : List Cause) → Reads bytes d → own ≡ file_faults d → more ≡ size_faults d
    → first_cause (own ++ more) ≡ Some (LimitCause (string_bytes path)) → string_bytes path ≡ codes "." → ⊥
either-first bytes d path [] more reads is so first e = size-elsewhere d (string_bytes path) (subst (λ (cs : List Cause). first_cause cs ≡ Some (LimitCause (string_bytes path))) so first) e
either-first bytes d path (cause ∷ own) more reads is so first e =
    let here : first_cause (cause ∷ own) ≡ Some (LimitCause (string_bytes path)) = first in
    limit-elsewhere bytes path (d, reads, subst (λ (cs : List Cause). first_cause cs ≡ Some (LimitCause (string_bytes path))) is here) e

pub result-elsewhere : (bytes : List ℕ) (path : String Global) → IsFirstResultFault bytes (LimitRefusal path) → string_bytes path ≡ codes "." → ⊥
result-elsewhere bytes path (d, reads, first) e = either-first bytes d path (file_faults d) (size_faults d) reads refl refl first e
