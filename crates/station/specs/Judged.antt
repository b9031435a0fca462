-- What an answer to `judge` says about the input and the output.
use Rattle.std.specs.Prelude.{◌≡◌, ◌≢◌, ◌<◌, ◌+◌, ◌⊎◌, ℕ, List, [], ◌∷◌, ◌++◌, length, Option, IfSome}
use Rattle.io_edge.specs.Edge.{Appends}
use Rattle.trace_writer.specs.Bytes.{AppendsFront}
use Rattle.trace_text.specs.declared.lines.Line.{Line}
use Rattle.scenario_data.specs.declared.refusal.Refusal.{Refusal}
use Rattle.scenario_data.specs.declared.refusal.Refusal.TheVariants.{Syntax}
use Rattle.scenario_data.specs.Content.{ScenarioContent}
use Rattle.scenario_read.specs.Answers.{IsScenario, IsFirstFault}
use Rattle.session_words.specs.Lines.{first_line, behind_first, whole_lines}
use Rattle.judge_laws.specs.declared.Terms.{Terms}
use Rattle.judge_laws.specs.Breaches.{exact}
use Rattle.judge_session.specs.Streets.{AllKnown, AllSafe, SafeSoFar}
use Rattle.judge_session.specs.Log.{IsLog, LogStops}
use Rattle.judge_session.specs.Report.{log_found, log_report, judged_text}
use Rattle.station.specs.declared.status.LogFault.{LogFault}
use Rattle.station.specs.declared.status.Status.{Status}
use Rattle.station.specs.declared.status.Status.TheVariants.{Done, Scenario, Unsafe, NotALog, ReadFault, WriteFault, NoMemory}
use Rattle.station.specs.Io.{Io}
use Rattle.station.specs.Answers.{IsShort, IsLengthRefusal, NamesFault}
use Rattle.station.specs.Lived.{IsLineRefused}

-- the first line of a log with this scenario text: `S ` and then the text
abbrev pub headed : List ℕ → List ℕ
headed bytes = 83 ∷ 32 ∷ bytes

-- the line is `S ` and then a scenario with content `s`, and has at most 16,777,216 bytes
pub record IsHead (line : List ℕ) (s : ScenarioContent) : Type 0 where
  pub bytes : List ℕ
  pub text : line ≡ headed bytes
  pub short : IsShort line
  pub scenario : IsScenario bytes s

-- the first fault of a first line: the first fault of its scenario, or Syntax if the line doesn't begin with `S `
abbrev pub IsHeadFault : List ℕ → Refusal → Type 0
IsHeadFault line refusal =
    ((bytes : List ℕ) × (line ≡ headed bytes) × IsFirstFault bytes refusal)
    ⊎ (((bytes : List ℕ) → line ≡ headed bytes → ⊥) × (refusal ≡ Syntax))

-- the lines of the input after its first line
abbrev pub log_lines : List ℕ → List (List ℕ)
log_lines input = whole_lines (behind_first input)

-- `lines` are the lines after the first line of the input, if the source reports its bytes
abbrev pub AreLogLines : Option (List ℕ) → List (List ℕ) → Type 0
AreLogLines left lines = IfSome left (λ input. lines ≡ log_lines input)

-- the first line of the input has a scenario with this content
pub record HasHead (left : Option (List ℕ)) (s : ScenarioContent) : Type 0 where
  pub line : List ℕ
  pub first : IfSome left (λ input. line ≡ first_line input)
  pub head : IsHead line s

-- all lines after the first are a log, and its whole report was appended. `before` has the lines of the log, the
-- newest first
pub record JudgesWhole (terms : Terms) (left old new : Option (List ℕ)) (s : ScenarioContent) : Type 0 where
  pub lines : List (List ℕ)
  pub before : List Line
  pub all : AreLogLines left lines
  pub log : IsLog s lines before
  pub written : Appends old new (judged_text s terms before)

-- the whole log was judged and has no breach. If it was judged exactly (tolerance 0, from tick 0 on), each street is
-- safe as far as its tables are known. If all tables are known, each street is safe
pub record IsSafeLog (terms : Terms) (left old new : Option (List ℕ)) (s : ScenarioContent) : Type 0 where
  pub whole : JudgesWhole terms left old new s
  pub none : log_found s terms whole.before ≡ []
  pub so_far : terms ≡ exact → SafeSoFar s whole.before
  pub safe : terms ≡ exact → AllKnown s whole.before → AllSafe s whole.before

-- the whole log was judged and has a breach. If it was judged exactly, not every street is safe as far as its tables
-- are known. If all tables are known, not every street is safe
pub record IsUnsafeLog (terms : Terms) (left old new : Option (List ℕ)) (s : ScenarioContent) : Type 0 where
  pub whole : JudgesWhole terms left old new s
  pub some : log_found s terms whole.before ≢ []
  pub so_far : terms ≡ exact → SafeSoFar s whole.before → ⊥
  pub unsafe : terms ≡ exact → AllKnown s whole.before → AllSafe s whole.before → ⊥

-- the line with this number is the first that can't follow: the lines before it are a log, and their report was
-- appended. `place` counts the lines after the first line of the input, from 0; the first line of the input has
-- number 1
pub record StopsAt (terms : Terms) (fault : LogFault) (left old new : Option (List ℕ)) (s : ScenarioContent) : Type 0 where
  pub lines : List (List ℕ)
  pub place : ℕ
  pub before : List Line
  pub all : AreLogLines left lines
  pub stops : LogStops s lines place before fault.fault
  pub number : fault.line ≡ place + 2
  pub written : Appends old new (log_report s terms before)

-- the judging stopped: the lines `bytes` are a log, and a proper prefix of their report was appended
pub record JudgesShort (terms : Terms) (left old new : Option (List ℕ)) (s : ScenarioContent) : Type 0 where
  pub bytes : List (List ℕ)
  pub before : List Line
  pub rest : List (List ℕ)
  pub all : AreLogLines left (bytes ++ rest)
  pub log : IsLog s bytes before
  pub front : AppendsFront old new (judged_text s terms before)

-- how the judging of a log of this scenario ended, status by status
abbrev pub LogEnds : Terms → Status → Type 0 → Type 0 → Option (List ℕ) → Option (List ℕ) → Option (List ℕ) → ScenarioContent → Type 0
LogEnds terms Done unread unwritten left old new s = IsSafeLog terms left old new s
LogEnds terms Unsafe unread unwritten left old new s = IsUnsafeLog terms left old new s
LogEnds terms (NotALog fault) unread unwritten left old new s = StopsAt terms fault left old new s
LogEnds terms ReadFault unread unwritten left old new s = unread × JudgesShort terms left old new s
LogEnds terms WriteFault unread unwritten left old new s = unwritten × JudgesShort terms left old new s
LogEnds terms NoMemory unread unwritten left old new s = JudgesShort terms left old new s
LogEnds terms _ unread unwritten left old new s = ⊥

-- the first line of the input has a scenario, and the judging of its log ended with this status
pub record EndsLog (terms : Terms) (status : Status) (io : Io) : Type 0 where
  pub scenario : ScenarioContent
  pub head : HasHead io.left scenario
  pub ends : LogEnds terms status io.unread io.unwritten io.left io.old io.new scenario

-- what an answer to `judge` says about the input and the output
abbrev pub Judged : Terms → Status → Io → Type 0
Judged terms Done io = EndsLog terms Done io
Judged terms Unsafe io = EndsLog terms Unsafe io
Judged terms (NotALog fault) io = EndsLog terms (NotALog fault) io
Judged terms (Scenario refusal) io = IsLineRefused IsHeadFault refusal io.left × (io.new ≡ io.old)
Judged terms ReadFault io = io.unread × ((io.new ≡ io.old) ⊎ EndsLog terms ReadFault io)
Judged terms WriteFault io = EndsLog terms WriteFault io
Judged terms NoMemory io = (io.new ≡ io.old) ⊎ EndsLog terms NoMemory io
Judged terms _ io = ⊥

-- the line has no scenario
abbrev pub IsNoHead : List ℕ → Type 0
IsNoHead line = (s : ScenarioContent) → IsHead line s → ⊥

-- the answer to `judge` that is expected if no read fails. A first line that is too long is refused for its length. A
-- first line without a scenario is refused for its first fault. A log without a breach is answered with Done, and a
-- log with breaches with Unsafe. If the lines aren't a log, the answer names the first line that can't follow
pub record IsJudgeDue (terms : Terms) (status : Status) (input : List ℕ) (unwritten : Type 0) : Type 0 where
  pub too_long : 16777216 < length (first_line input) → IsLengthRefusal status
  pub fault : IsShort (first_line input) → IsNoHead (first_line input) → NamesFault IsHeadFault status (first_line input)
  pub done : (s : ScenarioContent) (before : List Line) → IsHead (first_line input) s → IsLog s (log_lines input) before
      → log_found s terms before ≡ [] → ¬ unwritten → status ≡ Done
  pub unsafe : (s : ScenarioContent) (before : List Line) → IsHead (first_line input) s → IsLog s (log_lines input) before
      → log_found s terms before ≢ [] → ¬ unwritten → status ≡ Unsafe
  pub stopped : (s : ScenarioContent) (place : ℕ) (before : List Line) (fault : LogFault) → IsHead (first_line input) s
      → LogStops s (log_lines input) place before fault.fault → fault.line ≡ place + 2 → ¬ unwritten → status ≡ NotALog fault

-- what an answer to `judge` says. If no read fails, the answer is the one expected for the input, or memory ran out
pub record JudgeAnswer (terms : Terms) (status : Status) (io : Io) : Type 0 where
  pub told : Judged terms status io
  pub due : ¬ io.unread → IfSome io.left (λ input. IsJudgeDue terms status input io.unwritten ⊎ (status ≡ NoMemory))
