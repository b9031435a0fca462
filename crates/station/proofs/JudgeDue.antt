-- From what an answer to `judge` says to the answer expected for an input.
use Rattle.std.proofs.Common.{◌≡◌, ◌≢◌, ◌≤◌, ◌+◌, ◌⊎◌, ◌∙◌, inl, inr, ℕ, List, [], length, drop, Option, Some, None, IfSome, refl, sym, ap, subst, arith}
use Rattle.trace_text.specs.declared.lines.Line.{Line}
use Rattle.scenario_data.specs.Content.{ScenarioContent}
use Rattle.scenario_data.specs.declared.refusal.Refusal.{Refusal}
use Rattle.scenario_read.specs.Answers.{IsScenario}
use Rattle.scenario_read.proofs.OneAnswer.{no-fault-beside, one-scenario}
use Rattle.session_words.specs.Lines.{first_line}
use Rattle.judge_laws.specs.declared.Terms.{Terms}
use Rattle.judge_session.specs.declared.faults.LineFault.{LineFault}
use Rattle.judge_session.specs.Log.{IsLog, LogStops}
use Rattle.judge_session.specs.Report.{log_found}
use Rattle.station.specs.declared.status.LogFault.{LogFault}
use Rattle.station.specs.declared.status.Status.{Status}
use Rattle.station.specs.declared.status.Status.TheVariants.{Done, Usage, Scenario, NotATrace, Overlap as BrokenOverlap, Unsafe, NotALog, ReadFault, WriteFault, NoMemory}
use Rattle.station.specs.Io.{io}
use Rattle.station.specs.Answers.{IsShort}
use Rattle.station.specs.Lived.{IsLineRefused}
use Rattle.station.specs.Judged.{log_lines, IsHead, IsHeadFault, HasHead, IsJudgeDue, Judged, JudgeAnswer}
use Rattle.station.proofs.Logs.{one_log, no_stop, one_stop}

-- a first line has one scenario, or a fault
one_head : (line : List ℕ) (a b : ScenarioContent) → IsHead line a → IsHead line b → a ≡ b
one_head line a b is are =
    let same : is.bytes ≡ are.bytes = ap (λ (bytes : List ℕ). drop 2 bytes) (sym is.text ∙ are.text) in
    one-scenario are.bytes a b (subst (λ (bytes : List ℕ). IsScenario bytes a) same is.scenario) are.scenario

no_head_fault : (line : List ℕ) (s : ScenarioContent) (refusal : Refusal) → IsHead line s → IsHeadFault line refusal → ⊥
no_head_fault line s refusal head (inl (bytes, is, fault)) =
    let same : head.bytes ≡ bytes = ap (λ (x : List ℕ). drop 2 x) (sym head.text ∙ is) in
    no-fault-beside bytes s refusal (subst (λ (x : List ℕ). IsScenario x s) same head.scenario) fault
no_head_fault line s refusal head (inr (never, is)) = never head.bytes head.text

-- the scenario of an input whose first line has this one
module _ (terms : Terms) (input : List ℕ) (s : ScenarioContent) (head : HasHead (Some input) s) where
  its_head : IsHead (first_line input) s
  its_head = subst (λ (l : List ℕ). IsHead l s) head.first head.head

  few : length (first_line input) ≤ 16777216
  few = its_head.short

  same_log : (t : ScenarioContent) (a : List Line) → IsHead (first_line input) t → IsLog t (log_lines input) a → IsLog s (log_lines input) a
  same_log t a other log = subst (λ (x : ScenarioContent). IsLog x (log_lines input) a) (one_head (first_line input) t s other its_head) log

  -- what is found of a reading of the log is what is found of the other
  same_found : (t : ScenarioContent) (a b : List Line) → IsHead (first_line input) t → IsLog t (log_lines input) a → IsLog s (log_lines input) b
      → log_found t terms a ≡ log_found s terms b
  same_found t a b other log is =
      ap (λ (x : ScenarioContent). log_found x terms a) (one_head (first_line input) t s other its_head)
      ∙ ap (λ (ls : List Line). log_found s terms ls) (one_log s (log_lines input) a b (same_log t a other log) is)

  -- whatever is written, or where a write failed
  due_any : (status : Status) (unwritten : Type 0) → unwritten → IsJudgeDue terms status input unwritten
  due_any status unwritten failed = record {
    too_long = λ long. absurd (omega (arith, few, long));
    fault = λ short none. absurd (none s its_head);
    done = λ t a other log none put. absurd (put failed);
    unsafe = λ t a other log some put. absurd (put failed);
    stopped = λ t place a fault other stops at put. absurd (put failed);
  }

  due_done : (before : List Line) (unwritten : Type 0) → IsLog s (log_lines input) before → log_found s terms before ≡ [] → IsJudgeDue terms Done input unwritten
  due_done before unwritten is nothing = record {
    too_long = λ long. absurd (omega (arith, few, long));
    fault = λ short none. absurd (none s its_head);
    done = λ t a other log none put. refl;
    unsafe = λ t a other log some put. absurd (some (same_found t a before other log is ∙ nothing));
    stopped = λ t place a fault other stops at put.
        absurd (no_stop s (log_lines input) before a place fault.fault is (subst (λ (x : ScenarioContent). LogStops x (log_lines input) place a fault.fault) (one_head (first_line input) t s other its_head) stops));
  }

  due_unsafe : (before : List Line) (unwritten : Type 0) → IsLog s (log_lines input) before → log_found s terms before ≢ [] → IsJudgeDue terms Unsafe input unwritten
  due_unsafe before unwritten is found = record {
    too_long = λ long. absurd (omega (arith, few, long));
    fault = λ short none. absurd (none s its_head);
    done = λ t a other log none put. absurd (found (sym (same_found t a before other log is) ∙ none));
    unsafe = λ t a other log some put. refl;
    stopped = λ t place a fault other stops at put.
        absurd (no_stop s (log_lines input) before a place fault.fault is (subst (λ (x : ScenarioContent). LogStops x (log_lines input) place a fault.fault) (one_head (first_line input) t s other its_head) stops));
  }

  due_stopped : (fault : LogFault) (place : ℕ) (before : List Line) (unwritten : Type 0) → LogStops s (log_lines input) place before fault.fault → fault.line ≡ place + 2
      → IsJudgeDue terms (NotALog fault) input unwritten
  due_stopped fault place before unwritten is at = record {
    too_long = λ long. absurd (omega (arith, few, long));
    fault = λ short none. absurd (none s its_head);
    done = λ t a other log none put. absurd (no_stop s (log_lines input) a before place fault.fault (same_log t a other log) is);
    unsafe = λ t a other log some put. absurd (no_stop s (log_lines input) a before place fault.fault (same_log t a other log) is);
    stopped = λ t n a other of stops there put.
        let own = subst (λ (x : ScenarioContent). LogStops x (log_lines input) n a other.fault) (one_head (first_line input) t s of its_head) stops in
        let one = one_stop s (log_lines input) before a place n fault.fault other.fault is own in
        let line : fault.line ≡ other.line = at ∙ (ap (λ (k : ℕ). k + 2) one.0 ∙ sym there) in
        ap NotALog (ap (λ (k : ℕ). record { line = k; fault = fault.fault }) line ∙ ap (λ (f : LineFault). record { line = other.line; fault = f }) one.1);
  }

-- a refusal is expected
due_refused : (terms : Terms) (refusal : Refusal) (input : List ℕ) (unwritten : Type 0) → IsLineRefused IsHeadFault refusal (Some input)
    → IsJudgeDue terms (Scenario refusal) input unwritten
due_refused terms refusal input unwritten (inl (limit, long)) = record {
  too_long = λ more. limit;
  fault = λ short none. let few : length (first_line input) ≤ 16777216 = short in absurd (omega (arith, few, long));
  done = λ t a head log none put. let few : length (first_line input) ≤ 16777216 = head.short in absurd (omega (arith, few, long));
  unsafe = λ t a head log some put. let few : length (first_line input) ≤ 16777216 = head.short in absurd (omega (arith, few, long));
  stopped = λ t place a fault head stops at put. let few : length (first_line input) ≤ 16777216 = head.short in absurd (omega (arith, few, long));
}
due_refused terms refusal input unwritten (inr (other, has)) =
    let named : IsHeadFault (first_line input) refusal = subst (λ (l : List ℕ). IsHeadFault l refusal) has.first has.fault in
    let few : length (first_line input) ≤ 16777216 = subst IsShort has.first has.short in
    record {
      too_long = λ more. absurd (omega (arith, few, more));
      fault = λ short none. (refusal, refl, named);
      done = λ t a head log none put. absurd (no_head_fault (first_line input) t refusal head named);
      unsafe = λ t a head log some put. absurd (no_head_fault (first_line input) t refusal head named);
      stopped = λ t place a fault head stops at put. absurd (no_head_fault (first_line input) t refusal head named);
    }

due : (terms : Terms) (status : Status) (left ends : Option (List ℕ)) (unread : Type 0) (old new : Option (List ℕ)) (unwritten : Type 0)
    → Judged terms status (io left ends unread old new unwritten) → ¬ unread → IfSome left (λ input. IsJudgeDue terms status input unwritten ⊎ (status ≡ NoMemory))
due terms status None ends unread old new unwritten is sound = tt
due terms Done (Some input) ends unread old new unwritten is sound =
    let log = is.ends.whole in
    inl (due_done terms input is.scenario is.head log.before unwritten (subst (λ (ls : List (List ℕ)). IsLog is.scenario ls log.before) log.all log.log) is.ends.none)
due terms Unsafe (Some input) ends unread old new unwritten is sound =
    let log = is.ends.whole in
    inl (due_unsafe terms input is.scenario is.head log.before unwritten (subst (λ (ls : List (List ℕ)). IsLog is.scenario ls log.before) log.all log.log) is.ends.some)
due terms (NotALog fault) (Some input) ends unread old new unwritten is sound =
    let stop = is.ends in
    inl (due_stopped terms input is.scenario is.head fault stop.place stop.before unwritten
    (subst (λ (ls : List (List ℕ)). LogStops is.scenario ls stop.place stop.before fault.fault) stop.all stop.stops) stop.number)
due terms (Scenario refusal) (Some input) ends unread old new unwritten is sound = inl (due_refused terms refusal input unwritten is.0)
due terms ReadFault (Some input) ends unread old new unwritten is sound = absurd (sound is.0)
due terms WriteFault (Some input) ends unread old new unwritten is sound = inl (due_any terms input is.scenario is.head WriteFault unwritten is.ends.0)
due terms NoMemory (Some input) ends unread old new unwritten is sound = inr refl
due terms Usage (Some input) ends unread old new unwritten is sound = absurd is
due terms (NotATrace fault) (Some input) ends unread old new unwritten is sound = absurd is
due terms (BrokenOverlap fault) (Some input) ends unread old new unwritten is sound = absurd is

-- what an answer to `judge` says, and that it is expected
pub judge_answer : (terms : Terms) (status : Status) (left ends : Option (List ℕ)) (unread : Type 0) (old new : Option (List ℕ)) (unwritten : Type 0)
    → Judged terms status (io left ends unread old new unwritten) → JudgeAnswer terms status (io left ends unread old new unwritten)
judge_answer terms status left ends unread old new unwritten is = record {
  told = is;
  due = λ sound. due terms status left ends unread old new unwritten is sound;
}
