-- Refusals by the first fault of a longer list, and names among others.
use Rattle.std.proofs.Common.{◌≡◌, ℕ, ◌||◌, List, [], ◌∷◌, ◌++◌, map, Some, bytes_eq, refl, ap, append-nil, Bor}
use Rattle.std.specs.List.{list_any}
use Rattle.serde_json.specs.Data.{Data}
use Rattle.scenario_data.specs.declared.refusal.ReadFail.{ReadFail}
use Rattle.scenario_data.specs.declared.refusal.ReadFail.TheVariants.{Refused, NoMemory}
use Rattle.scenario_data.specs.declared.refusal.Refusal.{Refusal}
use Rattle.scenario_data.specs.declared.refusal.Refusal.TheVariants.{Syntax, Field, Limit, Broken}
use Rattle.scenario_data.specs.Causes.{Cause, Names}
use Rattle.scenario_read.specs.Kinds.{is_among}
use Rattle.scenario_read.specs.Faults.{faults, first_cause}
use Rattle.scenario_read.specs.Readers.{Refuses}
use Rattle.scenario_read.specs.Answers.{Reads, IsFirstFault, OnRefusal}

-- a text at the end of a path
pub ended : (name : List ℕ) → name ++ [] ≡ name
ended name = append-nil name

pub listed_among : (known : List (Bor (List ℕ))) (name : List ℕ) → list_any (λ a. bytes_eq a.now name) known ≡ is_among (map (λ k. k.now) known) name
listed_among [] name = refl
listed_among (k ∷ known) name = ap (λ b. bytes_eq k.now name || b) (listed_among known name)

first-more : (cause : Cause) (causes more : List Cause) → first_cause causes ≡ Some cause → first_cause (causes ++ more) ≡ Some cause
first-more cause [] more h = absurd (cc)
first-more cause (c ∷ causes) more h = h

names-more : (refusal : Refusal) (causes more : List Cause) → Names refusal (first_cause causes) → Names refusal (first_cause (causes ++ more))
names-more Syntax causes more h = absurd h
names-more (Field path) causes more h = first-more _ causes more h
names-more (Limit path) causes more h = first-more _ causes more h
names-more (Broken cabinet rule row) causes more h = first-more _ causes more h

-- the first fault of a list is that of a longer one
pub refuses_more : (fail : ReadFail) (causes more : List Cause) → Refuses fail causes → Refuses fail (causes ++ more)
refuses_more (Refused refusal) causes more h = names-more refusal causes more h
refuses_more NoMemory causes more h = tt

-- and so is the first fault after what has none
pub refuses_behind : (fail : ReadFail) (causes more : List Cause) → causes ≡ [] → Refuses fail more → Refuses fail (causes ++ more)
refuses_behind fail causes more none h = rw none h

named-first : (bytes : List ℕ) (d : Data) (refusal : Refusal) → Reads bytes d → Names refusal (first_cause (faults d)) → IsFirstFault bytes refusal
named-first bytes d Syntax reads h = absurd h
named-first bytes d (Field path) reads h = (d, reads, h)
named-first bytes d (Limit path) reads h = (d, reads, h)
named-first bytes d (Broken cabinet rule row) reads h = (d, reads, h)

-- the first fault of a value is that of its text
pub refused-first : (bytes : List ℕ) (d : Data) (fail : ReadFail) → Reads bytes d → Refuses fail (faults d) → OnRefusal fail (IsFirstFault bytes)
refused-first bytes d (Refused refusal) reads h = named-first bytes d refusal reads h
refused-first bytes d NoMemory reads h = tt
