-- From what was read of a field file to what it says: that its parts fit, how large its result is, and which fault of that comes first.
use Rattle.std.proofs.Common.{◌≡◌, ◌≤◌, ◌<◌, ◌+◌, ℕ, List, [], ◌∷◌, ◌++◌, length, codes, Option, Some, None, unwrap_or, Result, Ok, Err, Vec, Global, refl, sym, ap, ◌∙◌, subst, append_assoc}
use Rattle.serde_json.specs.Data.{Data, null, depth}
use Rattle.serde_json.specs.Find.{get}
use Rattle.serde_json.specs.Read.{max_depth, read}
use Rattle.scenario_data.specs.declared.refusal.ReadFail.{ReadFail}
use Rattle.scenario_data.specs.declared.refusal.ReadFail.TheVariants.{Refused, NoMemory}
use Rattle.scenario_data.specs.declared.refusal.Refusal.{Refusal}
use Rattle.scenario_data.specs.declared.refusal.Refusal.TheVariants.{Syntax, Field as FieldRefusal, Limit, Broken}
use Rattle.scenario_data.specs.declared.scenario.Entry.{Entry}
use Rattle.scenario_data.specs.Causes.{Cause, Names}
use Rattle.scenario_read.specs.Paths.{Named}
use Rattle.scenario_read.specs.Kinds.{fault_at, within}
use Rattle.scenario_read.specs.Fields.{held, either}
use Rattle.scenario_read.specs.Sorted.{Sorted}
use Rattle.scenario_read.specs.Readers.{Refuses, Answers}
use Rattle.scenario_read.specs.Answers.{Reads, OnRefusal}
use Rattle.scenario_read.specs.Faults.{first_cause, faults}
use Rattle.scenario_read.proofs.NoFaults.{none-left}
use Rattle.scenario_read.proofs.Refusing.{refuses_more}
use Rattle.scenario_checked.specs.Inside.{scenario}
use Rattle.detector_bank.specs.declared.bank.Call.{Call}
use Rattle.detector_bank.specs.Lists.{EachStands}
use Rattle.field_read.specs.Content.{RespondContent, FieldContent, field_of, cabinets_run}
use Rattle.field_read.specs.Checks.{named_faults, across_faults, file_faults}
use Rattle.field_read.specs.Answers.{IsFirstFieldFault}
use Rattle.field_read.proofs.Placed.{few-run}
use Rattle.field_file.specs.Counting.{RulesStand}
use Rattle.field_file.specs.Written.{with_traffic, calls_of, schedule_of, result_of, result_text}
use Rattle.field_file.specs.FieldAnswer.{entry_count, inputs_faults, entries_faults, bytes_faults, size_faults, result_faults, WasRead, TellsOf, IsFirstResultFault}
use Rattle.field_file.specs.Texts.{IsTextOf}
use Rattle.field_file.proofs.Called.{each-stands}
use Rattle.field_file.proofs.Ranges.{scenario-faultless, scenario-stands, rounds-few, bank-in, pulses-few, rules-in, rules-stand}
use Rattle.field_file.proofs.Whole.{few-at, result-clean, result-whole, result-told}

-- the parts of what was read fit the bank and the rules
pub record FitsRead (f : FieldContent) : Type 0 where
  pub stands : EachStands f.bank
  pub few : length f.pulses ≤ 1000000
  pub short : f.scenario.rounds ≤ 86400
  pub rules : (r : RespondContent) → f.respond ≡ Some r → (0 < r.period) × RulesStand r.sections

pub names-clean : (d : Data) → file_faults d ≡ [] → named_faults d ≡ []
names-clean d e = (none-left (named_faults d) (across_faults (field_of d)) e).0

rules-fit : (d : Data) (r : RespondContent) → named_faults d ≡ [] → (field_of d).respond ≡ Some r → (0 < r.period) × RulesStand r.sections
rules-fit d r e is = let own = rules-in d r e is in (own.period, rules-stand r.sections own.sections)

pub fits-read : (f : FieldContent) (d : Data) → WasRead f d → FitsRead f
fits-read f d read =
    let named : named_faults d ≡ [] = names-clean d read.clean in
    let own : FitsRead (field_of d) = record {
      stands = each-stands (cabinets_run d) (field_of d).bank (few-run d named) (bank-in d named);
      few = pulses-few d named;
      short = rounds-few (held scenario d) (scenario-faultless d named);
      rules = λ r asked. rules-fit d r named asked;
    } in
    subst FitsRead (sym read.said) own

-- the text of the result
pub text-same : (f : FieldContent) (d : Data) (text : List ℕ) → f ≡ field_of d → (calls : List Call) → calls ≡ calls_of f → (o : Option (List Entry)) → o ≡ schedule_of f
    → ((s : Data) → get (codes "scenario") d ≡ Some s → IsTextOf text (with_traffic calls o s)) → named_faults d ≡ [] → IsTextOf text (result_of d)
text-same f d text is calls are o so h e = from (get (codes "scenario") d) refl
  where
    from : (x : Option Data) → get (codes "scenario") d ≡ x → IsTextOf text (result_of d)
    from None there = absurd (scenario-stands d e there)
    from (Some s) there =
        let here : held scenario d ≡ s = ap (λ (x : Option Data). unwrap_or (either x None) null) there in
        let with : IsTextOf text (with_traffic (calls_of (field_of d)) (schedule_of (field_of d)) s) =
        subst (λ (g : FieldContent). IsTextOf text (with_traffic (calls_of g) (schedule_of g) s)) is
        (subst (λ (x : Option (List Entry)). IsTextOf text (with_traffic (calls_of f) x s)) so (subst (λ (cs : List Call). IsTextOf text (with_traffic cs o s)) are (h s there))) in
        subst (λ (x : Data). IsTextOf text (with_traffic (calls_of (field_of d)) (schedule_of (field_of d)) x)) (sym here) with

-- ---- the first fault of its size

-- the faults of a count are those of the size that it is
pub inputs-same : (f : FieldContent) (calls : List Call) (n : ℕ) → calls ≡ calls_of f → n ≡ length f.scenario.inputs + length calls → fault_at (Named (codes "pulses") ∷ []) (within 0 1000000 n) ≡ inputs_faults f
inputs-same f calls n are is = ap (λ (m : ℕ). fault_at (Named (codes "pulses") ∷ []) (within 0 1000000 m)) (is ∙ ap (λ (cs : List Call). length f.scenario.inputs + length cs) are)

pub entries-same : (f : FieldContent) (o : Option (List Entry)) (n : ℕ) → o ≡ schedule_of f → n ≡ entry_count o → fault_at (Named (codes "respond") ∷ []) (within 0 1000 n) ≡ entries_faults f
entries-same f o n are is = ap (λ (m : ℕ). fault_at (Named (codes "respond") ∷ []) (within 0 1000 m)) (is ∙ ap entry_count are)

-- the first fault of the traffic is one of the result
pub traffic-refused : (fail : ReadFail) (f : FieldContent) (d : Data) → WasRead f d → Refuses fail (inputs_faults f ++ entries_faults f) → Refuses fail (result_faults d)
traffic-refused fail f d read h =
    let a = inputs_faults (field_of d) in
    let b = entries_faults (field_of d) in
    let c = bytes_faults (result_text d) in
    let here : Refuses fail (a ++ b) = subst (λ (g : FieldContent). Refuses fail (inputs_faults g ++ entries_faults g)) read.said h in
    let more : Refuses fail (a ++ (b ++ c)) = subst (Refuses fail) (append_assoc a b c) (refuses_more fail (a ++ b) c here) in
    subst (λ (cs : List Cause). Refuses fail (cs ++ size_faults d)) (sym read.clean) more

-- a value whose traffic fits
pub record Fits (d : Data) : Type 0 where
  pub clean : file_faults d ≡ []
  pub inputs : inputs_faults (field_of d) ≡ []
  pub entries : entries_faults (field_of d) ≡ []

pub traffic-fits : (f : FieldContent) (d : Data) → WasRead f d → inputs_faults f ++ entries_faults f ≡ [] → Fits d
traffic-fits f d read none =
    let here : inputs_faults (field_of d) ++ entries_faults (field_of d) ≡ [] = subst (λ (g : FieldContent). inputs_faults g ++ entries_faults g ≡ []) read.said none in
    let parts = none-left (inputs_faults (field_of d)) (entries_faults (field_of d)) here in
    record { clean = read.clean; inputs = parts.0; entries = parts.1 }

-- its result has no fault of a scenario
pub fits-clean : (d : Data) → Fits d → faults (result_of d) ≡ []
fits-clean d fits =
    result-clean d (names-clean d fits.clean) (few-at (Named (codes "pulses") ∷ []) 1000000 _ fits.inputs) (few-at (Named (codes "respond") ∷ []) 1000 _ fits.entries)

behind-three : (fail : ReadFail) (a b c more : List Cause) → a ≡ [] → b ≡ [] → c ≡ [] → Refuses fail more → Refuses fail (a ++ (b ++ (c ++ more)))
behind-three fail a b c more p q r h = rw (p, q, r) h

none-of-four : (a b c e : List Cause) → a ≡ [] → b ≡ [] → c ≡ [] → e ≡ [] → a ++ (b ++ (c ++ e)) ≡ []
none-of-four a b c e p q r s = rw (p, q, r, s) refl

-- the answer to its text
pub text-told : (d : Data) (text : List ℕ) (answer : Result (Vec ℕ Global) ReadFail) → depth d ≤ max_depth → Fits d → IsTextOf text (result_of d) → text ≡ result_text d
    → Answers answer (bytes_faults text) (λ (told : Vec ℕ Global). told.items ≡ text) → Answers answer (result_faults d) (λ (told : Vec ℕ Global). TellsOf d told.items)
text-told d text (Ok told) nests fits is whole (none, same) =
    let bytes : bytes_faults (result_text d) ≡ [] = ap bytes_faults (sym whole) ∙ none in
    let tells : TellsOf d text = result-told d text nests (fits-clean d fits) whole is in (
      none-of-four (file_faults d) (inputs_faults (field_of d)) (entries_faults (field_of d)) (bytes_faults (result_text d)) fits.clean fits.inputs fits.entries bytes,
      subst (TellsOf d) (sym same) tells,
    )
text-told d text (Err fail) nests fits is whole h =
    behind-three fail (file_faults d) (inputs_faults (field_of d)) (entries_faults (field_of d)) (bytes_faults (result_text d)) fits.clean fits.inputs fits.entries
    (subst (λ (t : List ℕ). Refuses fail (bytes_faults t)) whole h)

pub whole-text : (d : Data) (text : List ℕ) → Sorted d → Fits d → IsTextOf text (result_of d) → text ≡ result_text d
whole-text d text sorted fits is = result-whole d text sorted (fits-clean d fits) is

-- the first fault of the file is that of the result, and the first fault of the value that of its bytes
first-more : (a b : List Cause) (cause : Cause) → first_cause a ≡ Some cause → first_cause (a ++ b) ≡ Some cause
first-more [] b cause e = absurd (cc)
first-more (c ∷ a) b cause e = e

pub field-refused : (bytes : List ℕ) (fail : ReadFail) → OnRefusal fail (IsFirstFieldFault bytes) → OnRefusal fail (IsFirstResultFault bytes)
field-refused bytes (Refused Syntax) h = h
field-refused bytes (Refused (FieldRefusal path)) (d, reads, first) = (d, reads, first-more (file_faults d) (size_faults d) _ first)
field-refused bytes (Refused (Limit path)) (d, reads, first) = (d, reads, first-more (file_faults d) (size_faults d) _ first)
field-refused bytes (Refused (Broken cabinet rule row)) (d, reads, first) = (d, reads, first-more (file_faults d) (size_faults d) _ first)
field-refused bytes NoMemory h = tt

named-first : (bytes : List ℕ) (d : Data) (refusal : Refusal) → Reads bytes d → Names refusal (first_cause (result_faults d)) → IsFirstResultFault bytes refusal
named-first bytes d Syntax reads h = absurd h
named-first bytes d (FieldRefusal path) reads h = (d, reads, h)
named-first bytes d (Limit path) reads h = (d, reads, h)
named-first bytes d (Broken cabinet rule row) reads h = (d, reads, h)

pub result-refused : (bytes : List ℕ) (d : Data) (fail : ReadFail) → Reads bytes d → Refuses fail (result_faults d) → OnRefusal fail (IsFirstResultFault bytes)
result-refused bytes d (Refused refusal) reads h = named-first bytes d refusal reads h
result-refused bytes d NoMemory reads h = tt
