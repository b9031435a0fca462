-- From what an answer to `live` says to the answer expected for an input.
use Rattle.std.proofs.Common.{◌≡◌, ◌≤◌, ◌⊎◌, inl, inr, ℕ, List, Option, Some, None, IfSome, length, refl, ap, ◌∙◌, subst, arith}
use Rattle.std.specs.Option.{option_map}
use Rattle.scenario_data.specs.Causes.{Limit as LimitCause, Names}
use Rattle.scenario_data.specs.Content.{ScenarioContent}
use Rattle.scenario_data.specs.declared.refusal.Refusal.{Refusal}
use Rattle.scenario_data.specs.declared.refusal.Refusal.TheVariants.{Syntax, Field, Limit, Broken}
use Rattle.scenario_read.proofs.OneAnswer.{no-fault-beside, one-scenario}
use Rattle.session_words.specs.Lines.{first_line}
use Rattle.run_definition.specs.SessionDialogue.{early_priority, early_path, order_fault, IsByRounds, IsOrderFault}
use Rattle.station.specs.declared.status.Status.{Status}
use Rattle.station.specs.declared.status.Status.TheVariants.{Done, Usage, Scenario, NotATrace, Overlap as BrokenOverlap, Unsafe, NotALog, ReadFault, WriteFault, NoMemory}
use Rattle.station.specs.Io.{io}
use Rattle.station.specs.Answers.{IsShort}
use Rattle.station.specs.Lived.{IsBase, IsSession, IsFirstLineFault, IsLineRefused, IsLiveDue, Lived, LiveAnswer}

-- a scenario by rounds has no fault of order
none_named : (refusal : Refusal) → Names refusal None → ⊥
none_named Syntax named = named
none_named (Field path) named = absurd (cc named)
none_named (Limit path) named = absurd (cc named)
none_named (Broken cabinet rule row) named = absurd (cc named)

in_order : (s : ScenarioContent) → IsByRounds s → order_fault s ≡ None
in_order s by = ap (λ (loads : Option ℕ). early_path loads (early_priority s)) by.loads ∙ ap (λ (items : Option ℕ). early_path None items) by.priority

no_fault_of_base : (line : List ℕ) (s : ScenarioContent) (refusal : Refusal) → IsBase line s → IsFirstLineFault line refusal → ⊥
no_fault_of_base line s refusal base (inl fault) = no-fault-beside line s refusal base.scenario fault
no_fault_of_base line s refusal base (inr (other, is, fault)) =
    let same : other ≡ s = one-scenario line other s is base.scenario in
    let its : IsOrderFault s refusal = subst (λ (x : ScenarioContent). IsOrderFault x refusal) same fault in
    none_named refusal (subst (λ (path : Option (List ℕ)). Names refusal (option_map LimitCause path)) (in_order s base.by_rounds) its)

-- the answer expected for a session is that it was opened
due_session : (status : Status) (input : List ℕ) (s : ScenarioContent) (requests : List (List ℕ)) (unwritten : Type 0) → IsSession (Some input) s requests
    → (¬ unwritten → status ≡ Done) → IsLiveDue status (first_line input) unwritten
due_session status input s requests unwritten is done =
    let base : IsBase (first_line input) s = subst (λ (l : List ℕ). IsBase l s) is.first is.base in
    record {
      too_long = λ long. let short : length (first_line input) ≤ 16777216 = base.short in absurd (omega (arith, short, long));
      fault = λ short none. absurd (none s base);
      done = λ short t other put. done put;
    }

-- a refusal is expected
due_refused : (refusal : Refusal) (input : List ℕ) (unwritten : Type 0) → IsLineRefused IsFirstLineFault refusal (Some input) → IsLiveDue (Scenario refusal) (first_line input) unwritten
due_refused refusal input unwritten (inl (limit, long)) = record {
  too_long = λ more. limit;
  fault = λ short none. let few : length (first_line input) ≤ 16777216 = short in absurd (omega (arith, few, long));
  done = λ short s base put. let few : length (first_line input) ≤ 16777216 = short in absurd (omega (arith, few, long));
}
due_refused refusal input unwritten (inr (other, has)) =
    let named : IsFirstLineFault (first_line input) refusal = subst (λ (l : List ℕ). IsFirstLineFault l refusal) has.first has.fault in
    let few : length (first_line input) ≤ 16777216 = subst IsShort has.first has.short in
    record {
      too_long = λ more. absurd (omega (arith, few, more));
      fault = λ short none. (refusal, refl, named);
      done = λ short s base put. absurd (no_fault_of_base (first_line input) s refusal base named);
    }

due : (status : Status) (left ends : Option (List ℕ)) (unread : Type 0) (old new : Option (List ℕ)) (unwritten : Type 0)
    → Lived status (io left ends unread old new unwritten) → ¬ unread → IfSome left (λ input. IsLiveDue status (first_line input) unwritten ⊎ (status ≡ NoMemory))
due status None ends unread old new unwritten lived sound = tt
due Done (Some input) ends unread old new unwritten lived sound = inl (due_session Done input lived.scenario lived.requests unwritten lived.input (λ put. refl))
due Usage (Some input) ends unread old new unwritten lived sound = absurd lived
due (Scenario refusal) (Some input) ends unread old new unwritten lived sound = inl (due_refused refusal input unwritten lived.0)
due (NotATrace fault) (Some input) ends unread old new unwritten lived sound = absurd lived
due (BrokenOverlap fault) (Some input) ends unread old new unwritten lived sound = absurd lived
due Unsafe (Some input) ends unread old new unwritten lived sound = absurd lived
due (NotALog fault) (Some input) ends unread old new unwritten lived sound = absurd lived
due ReadFault (Some input) ends unread old new unwritten lived sound = absurd (sound lived.0)
due WriteFault (Some input) ends unread old new unwritten lived sound =
    inl (due_session WriteFault input lived.1.scenario lived.1.requests unwritten lived.1.input (λ put. absurd (put lived.0)))
due NoMemory (Some input) ends unread old new unwritten lived sound = inr refl

-- what an answer to `live` says, and that it is expected
pub live_answer : (status : Status) (left ends : Option (List ℕ)) (unread : Type 0) (old new : Option (List ℕ)) (unwritten : Type 0)
    → Lived status (io left ends unread old new unwritten) → LiveAnswer status (io left ends unread old new unwritten)
live_answer status left ends unread old new unwritten lived = record {
  told = lived;
  due = λ sound. due status left ends unread old new unwritten lived sound;
}
