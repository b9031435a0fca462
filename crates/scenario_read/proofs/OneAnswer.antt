-- Bytes are one scenario, or have a first fault, and never both; and so of any file whose value has faults in an order.
use Rattle.std.proofs.Common.{◌≡◌, ℕ, List, [], ◌∷◌, Option, Some, sym, ap, ◌∙◌, subst}
use Rattle.serde_json.specs.Data.{Data}
use Rattle.scenario_data.specs.declared.refusal.Refusal.{Refusal}
use Rattle.scenario_data.specs.declared.refusal.Refusal.TheVariants.{Syntax, Field, Limit, Broken}
use Rattle.scenario_data.specs.Causes.{Cause, Names}
use Rattle.scenario_data.specs.Content.{ScenarioContent}
use Rattle.scenario_read.specs.Content.{scenario_of}
use Rattle.scenario_read.specs.Faults.{faults, first_cause}
use Rattle.scenario_read.specs.Answers.{Reads, IsScenario, IsFirstFault, SameFault}

pub one-value : (o : Option Data) (d e : Data) → o ≡ Some d → o ≡ Some e → d ≡ e
one-value o d e p q = cc

none-first : (causes : List Cause) (cause : Cause) → causes ≡ [] → first_cause causes ≡ Some cause → ⊥
none-first [] cause none first = absurd (cc)
none-first (c ∷ causes) cause none first = absurd (cc)

-- the refusal names the first fault of the bytes, where a value has these faults
abbrev pub IsFirstOf : (Data → List Cause) → List ℕ → Refusal → Type 0
IsFirstOf faults bytes Syntax = (d : Data) → Reads bytes d → ⊥
IsFirstOf faults bytes (Field path) = (d : Data) × Reads bytes d × Names (Field path) (first_cause (faults d))
IsFirstOf faults bytes (Limit path) = (d : Data) × Reads bytes d × Names (Limit path) (first_cause (faults d))
IsFirstOf faults bytes (Broken cabinet rule row) = (d : Data) × Reads bytes d × Names (Broken cabinet rule row) (first_cause (faults d))

clash : (faults : Data → List Cause) (d e : Data) (o : Option Data) (cause : Cause) → o ≡ Some d → o ≡ Some e → faults d ≡ []
    → first_cause (faults e) ≡ Some cause → ⊥
clash faults d e o cause r s none first = none-first (faults e) cause (subst (λ v. faults v ≡ []) (one-value o d e r s) none) first

-- bytes whose value has none have no first fault
pub none-beside : (faults : Data → List Cause) (bytes : List ℕ) (d : Data) (refusal : Refusal) → Reads bytes d → faults d ≡ []
    → IsFirstOf faults bytes refusal → ⊥
none-beside faults bytes d Syntax reads none h = h d reads
none-beside faults bytes d (Field path) reads none h = clash faults d h.0 _ _ reads.1 h.1.1 none h.2
none-beside faults bytes d (Limit path) reads none h = clash faults d h.0 _ _ reads.1 h.1.1 none h.2
none-beside faults bytes d (Broken cabinet rule row) reads none h = clash faults d h.0 _ _ reads.1 h.1.1 none h.2

same-first : (faults : Data → List Cause) (d e : Data) (a b : Cause) (o : Option Data) → o ≡ Some d → o ≡ Some e
    → first_cause (faults d) ≡ Some a → first_cause (faults e) ≡ Some b → a ≡ b
same-first faults d e a b o r s p q =
    let same : first_cause (faults d) ≡ first_cause (faults e) = ap (λ v. first_cause (faults v)) (one-value o d e r s) in
    cc

-- bytes have one first fault
pub one-first : (faults : Data → List Cause) (bytes : List ℕ) (a b : Refusal) → IsFirstOf faults bytes a → IsFirstOf faults bytes b → SameFault a b
one-first faults bytes Syntax Syntax h k = tt
one-first faults bytes Syntax (Field path) h k = absurd (h k.0 k.1)
one-first faults bytes Syntax (Limit path) h k = absurd (h k.0 k.1)
one-first faults bytes Syntax (Broken cabinet rule row) h k = absurd (h k.0 k.1)
one-first faults bytes (Field path) Syntax h k = absurd (k h.0 h.1)
one-first faults bytes (Field path) (Field other) h k = let e = same-first faults h.0 k.0 _ _ _ h.1.1 k.1.1 h.2 k.2 in cc
one-first faults bytes (Field path) (Limit other) h k = let e = same-first faults h.0 k.0 _ _ _ h.1.1 k.1.1 h.2 k.2 in absurd (cc)
one-first faults bytes (Field path) (Broken cabinet rule row) h k = let e = same-first faults h.0 k.0 _ _ _ h.1.1 k.1.1 h.2 k.2 in absurd (cc)
one-first faults bytes (Limit path) Syntax h k = absurd (k h.0 h.1)
one-first faults bytes (Limit path) (Field other) h k = let e = same-first faults h.0 k.0 _ _ _ h.1.1 k.1.1 h.2 k.2 in absurd (cc)
one-first faults bytes (Limit path) (Limit other) h k = let e = same-first faults h.0 k.0 _ _ _ h.1.1 k.1.1 h.2 k.2 in cc
one-first faults bytes (Limit path) (Broken cabinet rule row) h k = let e = same-first faults h.0 k.0 _ _ _ h.1.1 k.1.1 h.2 k.2 in absurd (cc)
one-first faults bytes (Broken cabinet rule row) Syntax h k = absurd (k h.0 h.1)
one-first faults bytes (Broken cabinet rule row) (Field other) h k = let e = same-first faults h.0 k.0 _ _ _ h.1.1 k.1.1 h.2 k.2 in absurd (cc)
one-first faults bytes (Broken cabinet rule row) (Limit other) h k = let e = same-first faults h.0 k.0 _ _ _ h.1.1 k.1.1 h.2 k.2 in absurd (cc)
one-first faults bytes (Broken cabinet rule row) (Broken c r w) h k = let e = same-first faults h.0 k.0 _ _ _ h.1.1 k.1.1 h.2 k.2 in (cc, cc, cc)

first-of : (bytes : List ℕ) (refusal : Refusal) → IsFirstFault bytes refusal → IsFirstOf faults bytes refusal
first-of bytes Syntax h = h
first-of bytes (Field path) h = h
first-of bytes (Limit path) h = h
first-of bytes (Broken cabinet rule row) h = h

pub one-scenario : (bytes : List ℕ) (a b : ScenarioContent) → IsScenario bytes a → IsScenario bytes b → a ≡ b
one-scenario bytes a b (d, r, none, is) (e, s, clean, so) = is ∙ ap scenario_of (one-value _ d e r.1 s.1) ∙ sym so

pub no-fault-beside : (bytes : List ℕ) (a : ScenarioContent) (refusal : Refusal) → IsScenario bytes a → IsFirstFault bytes refusal → ⊥
no-fault-beside bytes a refusal s h = none-beside faults bytes s.0 refusal s.1 s.2 (first-of bytes refusal h)

pub one-fault : (bytes : List ℕ) (a b : Refusal) → IsFirstFault bytes a → IsFirstFault bytes b → SameFault a b
one-fault bytes a b h k = one-first faults bytes a b (first-of bytes a h) (first-of bytes b k)
