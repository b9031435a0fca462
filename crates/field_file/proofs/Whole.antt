-- The result of a field file without faults is a scenario, and its text is known and read again.
use Rattle.std.proofs.Common.{◌≡◌, ◌≤◌, ◌+◌, ℕ, zero, suc, false, List, [], ◌∷◌, ◌++◌, length, codes, Option, Some, None, unwrap_or, option_map, refl, sym, ap, subst, arith}
use Rattle.serde_json.specs.Data.{Data, null, depth}
use Rattle.serde_json.specs.Find.{get}
use Rattle.serde_json.specs.Read.{max_depth}
use Rattle.serde_json.specs.Written.{has_float}
use Rattle.scenario_read.specs.Paths.{Step, Named}
use Rattle.scenario_read.specs.Kinds.{fault_at, within, items_in}
use Rattle.scenario_read.specs.Fields.{held, either}
use Rattle.scenario_read.specs.Table.{inputs}
use Rattle.scenario_read.specs.Content.{input_of, round_count, cabinet_count}
use Rattle.scenario_read.specs.Sorted.{Sorted}
use Rattle.scenario_read.specs.Faults.{faults}
use Rattle.scenario_read.proofs.Whole.{faultless-parts}
use Rattle.scenario_read.proofs.Compact.{faultless-floatless}
use Rattle.scenario_read.proofs.NoFaults.{none-left, fits-alone}
use Rattle.scenario_read.proofs.Walks.{each_of-len}
use Rattle.scenario_checked.proofs.RangesParts.{in-range}
use Rattle.scenario_checked.specs.Inside.{scenario}
use Rattle.responsive.proofs.Levels.{stays, level-few}
use Rattle.field_read.specs.Content.{RuleContent, RespondContent, FieldContent, field_of, respond_asked}
use Rattle.field_read.specs.Checks.{named_faults, across_faults, file_faults}
use Rattle.field_read.proofs.Inside.{member-sorted}
use Rattle.field_file.specs.Schedule.{Counted, volume, level_after}
use Rattle.field_file.specs.Written.{calls_of, counted, schedule_by, schedule_of, result_of, result_text}
use Rattle.field_file.specs.FieldAnswer.{entry_count, inputs_faults, entries_faults, bytes_faults, size_faults, result_faults, LevelsStay, TellsOf}
use Rattle.field_file.specs.Texts.{IsTextOf}
use Rattle.field_file.proofs.Called.{calls-in}
use Rattle.field_file.proofs.Faultless.{AreListed, with-traffic-clean}
use Rattle.field_file.proofs.Shape.{traffic-sorted, traffic-depth, below-object}
use Rattle.field_file.proofs.Ranges.{scenario-faultless, bank-in, rules-in}
use Rattle.field_file.proofs.Entries.{entries-in}

pub listed-in : (d : Data) → named_faults d ≡ [] → entry_count (schedule_of (field_of d)) ≤ 1000 → AreListed (schedule_of (field_of d))
listed-in d named few = from (respond_asked d) refl few
  where
    f : FieldContent
    f = field_of d

    from : (o : Option RespondContent) → respond_asked d ≡ o → entry_count (option_map (schedule_by f) o) ≤ 1000 → AreListed (option_map (schedule_by f) o)
    from None is low = tt
    from (Some r) is low = (low, entries-in f.scenario (counted f r.period) r.sections (rules-in d r named is).sections)

-- a result of a size that fits is a scenario without faults
pub result-clean : (d : Data) → named_faults d ≡ [] → length (field_of d).scenario.inputs + length (calls_of (field_of d)) ≤ 1000000 → entry_count (schedule_of (field_of d)) ≤ 1000
    → faults (result_of d) ≡ []
result-clean d named inputs_few entries_few =
    let f : FieldContent = field_of d in
    let s : Data = held scenario d in
    let r : ℕ = round_count s in
    let c : ℕ = cabinet_count s in
    with-traffic-clean (calls_of f) (schedule_of f) s (listed-in d named entries_few) (calls-in r c f.bank f.pulses r (bank-in d named) (omega arith))
    (subst (λ (n : ℕ). n + length (calls_of f) ≤ 1000000) (each_of-len (input_of r c) (items_in (held (inputs r c) s))) inputs_few)
    (scenario-faultless d named)

pub few-at : (path : List Step) (most n : ℕ) → fault_at path (within 0 most n) ≡ [] → n ≤ most
few-at path most n e = (in-range 0 most n (fits-alone path (within 0 most n) e)).1

pub result-faultless : (d : Data) → result_faults d ≡ [] → faults (result_of d) ≡ []
result-faultless d e =
    let parts = none-left (file_faults d) (size_faults d) e in
    let own = none-left (named_faults d) (across_faults (field_of d)) parts.0 in
    let sizes = none-left (inputs_faults (field_of d)) (entries_faults (field_of d) ++ bytes_faults (result_text d)) parts.1 in
    let more = none-left (entries_faults (field_of d)) (bytes_faults (result_text d)) sizes.1 in
    result-clean d own.0 (few-at (Named (codes "pulses") ∷ []) 1000000 _ sizes.0) (few-at (Named (codes "respond") ∷ []) 1000 _ more.0)

-- ---- its text

pub held-sorted : (d : Data) → Sorted d → Sorted (held scenario d)
held-sorted d h = from (get (codes "scenario") d) refl
  where
    from : (o : Option Data) → get (codes "scenario") d ≡ o → Sorted (unwrap_or (either o None) null)
    from None is = tt
    from (Some x) is = member-sorted (codes "scenario") d x (sym is) h

held-depth : (d : Data) → depth d ≤ max_depth → depth (held scenario d) ≤ 126
held-depth d h = from (get (codes "scenario") d) refl
  where
    from : (o : Option Data) → get (codes "scenario") d ≡ o → depth (unwrap_or (either o None) null) ≤ 126
    from None is = omega arith
    from (Some x) is = let low = below-object (codes "scenario") d x (sym is) in omega (arith, low, h)

pub result-shallow : (d : Data) → depth d ≤ max_depth → depth (result_of d) ≤ max_depth
result-shallow d h =
    let low = traffic-depth (calls_of (field_of d)) (schedule_of (field_of d)) (held scenario d) 124 (omega arith) (held-depth d h) in
    omega (arith, low)

pub result-floatless : (d : Data) → Sorted d → faults (result_of d) ≡ [] → has_float (result_of d) ≡ false
result-floatless d sorted e =
    faultless-floatless (result_of d) (traffic-sorted (calls_of (field_of d)) (schedule_of (field_of d)) (held scenario d) (held-sorted d sorted)) (faultless-parts (result_of d) e).0

pub result-whole : (d : Data) (text : List ℕ) → Sorted d → faults (result_of d) ≡ [] → IsTextOf text (result_of d) → text ≡ result_text d
result-whole d text sorted e is = is.whole (result-floatless d sorted e)

level-within : (c : Counted) (rule : RuleContent) (n : ℕ) → level_after c rule n ≤ length rule.steps
level-within c rule zero = omega arith
level-within c rule (suc n) = level-few rule.steps (level_after c rule n) (volume c rule.section n) (level-within c rule n)

levels-stay : (f : FieldContent) → LevelsStay f
levels-stay f period rule n =
    stays rule.steps (level_after (counted f period) rule n) (volume (counted f period) rule.section n) (level-within (counted f period) rule n)

pub result-told : (d : Data) (text : List ℕ) → depth d ≤ max_depth → faults (result_of d) ≡ [] → text ≡ result_text d → IsTextOf text (result_of d) → TellsOf d text
result-told d text nests e whole is = record { whole = whole; read = (result_of d, is.reads (result-shallow d nests), e, refl); levels = levels-stay (field_of d) }

-- where the scenario is
there : (d : Data) (s : Data) → get (codes "scenario") d ≡ Some s → held scenario d ≡ s
there d s e = ap (λ (o : Option Data). unwrap_or (either o None) null) e
