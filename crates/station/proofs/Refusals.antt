-- Why an input, or its first line, is refused: for its length, or for its first fault.
use Rattle.std.proofs.Common.{◌≡◌, ◌≤◌, inl, inr, ℕ, List, Option, Some, None, IfSome, String, codes, string_bytes, length, get_or, ◌∙◌, ap, subst, arith}
use Rattle.std.specs.Option.{option_map}
use Rattle.std.specs.declared.alloc.Global.{Global}
use Rattle.scenario_data.specs.declared.refusal.Refusal.{Refusal}
use Rattle.scenario_data.specs.declared.refusal.Refusal.TheVariants.{Syntax, Field, Limit, Broken}
use Rattle.scenario_data.specs.Causes.{Limit as LimitCause}
use Rattle.scenario_data.specs.Content.{ScenarioContent}
use Rattle.scenario_read.specs.Answers.{IsScenario, IsFirstFault}
use Rattle.scenario_read.proofs.LimitNames.{limit-elsewhere}
use Rattle.session_words.specs.Lines.{first_line}
use Rattle.run_definition.specs.SessionDialogue.{early_load, early_priority, early_path, round_path, IsOrderFault}
use Rattle.station.specs.Bytes.{AreInput, nothing_left}
use Rattle.station.specs.Answers.{IsRead, IsLengthLimit, IsRefused}
use Rattle.station.specs.Lived.{IsFirstLineFault, IsLineRefused}
use Rattle.station.specs.Judged.{IsHeadFault}

-- a first fault is never that of the whole input's length
pub fault_elsewhere : (bytes : List ℕ) (refusal : Refusal) → IsFirstFault bytes refusal → IsLengthLimit refusal → ⊥
fault_elsewhere bytes Syntax fault limit = limit
fault_elsewhere bytes (Field path) fault limit = limit
fault_elsewhere bytes (Limit path) fault limit = limit-elsewhere bytes path fault limit
fault_elsewhere bytes (Broken cabinet rule row) fault limit = limit

-- nor is one of another kind of input, whose limits have names
pub named_elsewhere : (IsFirst : List ℕ → Refusal → Type 0)
    → ((bytes : List ℕ) → (path : String Global) → IsFirst bytes (Limit path) → string_bytes path ≡ codes "." → ⊥)
    → (bytes : List ℕ) (refusal : Refusal) → IsFirst bytes refusal → IsLengthLimit refusal → ⊥
named_elsewhere IsFirst named bytes Syntax fault limit = limit
named_elsewhere IsFirst named bytes (Field path) fault limit = limit
named_elsewhere IsFirst named bytes (Limit path) fault limit = named bytes path fault limit
named_elsewhere IsFirst named bytes (Broken cabinet rule row) fault limit = limit

module _ (IsFirst : List ℕ → Refusal → Type 0) (elsewhere : (bytes : List ℕ) (refusal : Refusal) → IsFirst bytes refusal → IsLengthLimit refusal → ⊥) where
  -- all of the input was read, and this is its first fault
  pub refused_first : (left ends : Option (List ℕ)) (bytes slice : List ℕ) (refusal : Refusal) → AreInput left bytes → slice ≡ bytes → length bytes ≤ 16777216
      → IsFirst slice refusal → ends ≡ nothing_left left → IsRefused IsFirst refusal left ends
  refused_first left ends bytes slice refusal same e short fault ended =
      let first : IsFirst bytes refusal = subst (λ (x : List ℕ). IsFirst x refusal) e fault in
      inr (elsewhere bytes refusal first, record { bytes = bytes; all = same; short = short; first = first; ended = ended })

-- all of the input was read, and it is a scenario
pub whole_scenario : (left : Option (List ℕ)) (bytes slice : List ℕ) (s : ScenarioContent) → AreInput left bytes → slice ≡ bytes → length bytes ≤ 16777216
    → IsScenario slice s → IsRead left s
whole_scenario left bytes slice s same e short is = (bytes, same, short, subst (λ (x : List ℕ). IsScenario x s) e is)

-- the path of an item of a list is never that of the whole input's length
early_named : (loads priority : Option ℕ) (path : List ℕ) → option_map LimitCause (early_path loads priority) ≡ Some (LimitCause path) → path ≡ codes "." → ⊥
early_named (Some place) priority path e dot =
    let same : round_path (codes "loads") place ≡ path = cc in
    let heads : 108 ≡ 46 = ap (λ (bytes : List ℕ). get_or bytes 0 0) (same ∙ dot) in
    absurd (omega (arith, heads))
early_named None (Some place) path e dot =
    let same : round_path (codes "priority") place ≡ path = cc in
    let heads : 112 ≡ 46 = ap (λ (bytes : List ℕ). get_or bytes 0 0) (same ∙ dot) in
    absurd (omega (arith, heads))
early_named None None path e dot = absurd (cc)

order_elsewhere : (s : ScenarioContent) (refusal : Refusal) → IsOrderFault s refusal → IsLengthLimit refusal → ⊥
order_elsewhere s Syntax fault limit = limit
order_elsewhere s (Field path) fault limit = limit
order_elsewhere s (Limit path) fault limit = early_named (early_load s) (early_priority s) (string_bytes path) fault limit
order_elsewhere s (Broken cabinet rule row) fault limit = limit

pub line_elsewhere : (line : List ℕ) (refusal : Refusal) → IsFirstLineFault line refusal → IsLengthLimit refusal → ⊥
line_elsewhere line refusal (inl fault) limit = fault_elsewhere line refusal fault limit
line_elsewhere line refusal (inr (s, is, fault)) limit = order_elsewhere s refusal fault limit

-- nor is that of a first line of a log
pub head_elsewhere : (line : List ℕ) (refusal : Refusal) → IsHeadFault line refusal → IsLengthLimit refusal → ⊥
head_elsewhere line refusal (inl (bytes, is, fault)) limit = fault_elsewhere bytes refusal fault limit
head_elsewhere line refusal (inr (none, is)) limit = let none : ⊥ = subst IsLengthLimit is limit in none

module _ (IsFirst : List ℕ → Refusal → Type 0) (elsewhere : (line : List ℕ) (refusal : Refusal) → IsFirst line refusal → IsLengthLimit refusal → ⊥) where
  -- the first line was read, and this is its first fault
  pub line_refused : (left : Option (List ℕ)) (line slice : List ℕ) (refusal : Refusal) → IfSome left (λ input. line ≡ first_line input) → slice ≡ line
      → length line ≤ 16777216 → IsFirst slice refusal → IsLineRefused IsFirst refusal left
  line_refused left line slice refusal first e short fault =
      let its : IsFirst line refusal = subst (λ (x : List ℕ). IsFirst x refusal) e fault in
      inr (elsewhere line refusal its, record { line = line; first = first; short = short; fault = its })
