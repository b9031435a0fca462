-- The state between two lines of a log that `judge` reads.
use Rattle.std.specs.Prelude.{◌≡◌, ◌≤◌, ◌+◌, ◌⊎◌, ℕ, Bool, true, false, List, [], ◌∷◌, ◌++◌, length, Option}
use Rattle.io_edge.specs.Edge.{Appends}
use Rattle.trace_text.specs.declared.lines.Line.{Line}
use Rattle.scenario_data.specs.Content.{ScenarioContent}
use Rattle.session_words.specs.Unread.{behind_told, GivesLine, HasNoLine}
use Rattle.judge_laws.specs.declared.Terms.{Terms}
use Rattle.judge_session.specs.declared.log.LogJudge.{LogJudge}
use Rattle.judge_session.specs.Log.{IsLog, IsFault}
use Rattle.judge_session.specs.Report.{log_report, end_report}
use Rattle.judge_session.specs.Standing.{JudgeStands}
use Rattle.station.specs.declared.status.LogFault.{LogFault}
use Rattle.station.specs.declared.status.Status.{Status}
use Rattle.station.specs.declared.status.Status.TheVariants.{NotALog, ReadFault, NoMemory}
use Rattle.station.specs.Living.{AreAhead}
use Rattle.station.specs.Judged.{HasHead}

-- the first line of the input has a scenario with this content, and these bytes are left after it
pub record IsHeadRead (left behind : Option (List ℕ)) (s : ScenarioContent) : Type 0 where
  pub head : HasHead left s
  pub rest : behind ≡ behind_told left

-- these lines of the input were judged, their report was written, and the judge has this state; the next line has
-- this number
pub record IsJudging (left ahead old new : Option (List ℕ)) (s : ScenarioContent) (terms : Terms) (judge : LogJudge) (number : ℕ) : Type 0 where
  pub bytes : List (List ℕ)
  pub before : List Line
  pub asked : AreAhead left ahead bytes
  pub log : IsLog s bytes before
  pub stands : JudgeStands judge s terms before
  pub number_is : number ≡ length bytes + 2
  pub written : Appends old new (log_report s terms before)

-- the next line is one more line of the log, and the text is its report
pub record JudgesLine (over : Bool) (s : ScenarioContent) (terms : Terms) (before : List Line) (judge : LogJudge) (ahead behind : Option (List ℕ)) (text : List ℕ) : Type 0 where
  pub line : List ℕ
  pub next : GivesLine ahead behind line
  pub after : List Line
  pub log : (bytes : List (List ℕ)) → IsLog s bytes before → IsLog s (bytes ++ line ∷ []) after
  pub stands : JudgeStands judge s terms after
  pub report : log_report s terms after ≡ log_report s terms before ++ text
  pub over_is : over ≡ false

-- no line follows, and the text is the report at the end of the log
pub record JudgesEnd (over : Bool) (s : ScenarioContent) (terms : Terms) (before : List Line) (judge : LogJudge) (ahead : Option (List ℕ)) (text : List ℕ) : Type 0 where
  pub none : HasNoLine ahead
  pub stands : JudgeStands judge s terms before
  pub report : text ≡ end_report s terms before
  pub over_is : over ≡ true

abbrev pub JudgesNext : Bool → ScenarioContent → Terms → List Line → LogJudge → Option (List ℕ) → Option (List ℕ) → List ℕ → Type 0
JudgesNext over s terms before judge ahead behind text =
    JudgesLine over s terms before judge ahead behind text ⊎ JudgesEnd over s terms before judge ahead text

-- the next line, which has this number, can't follow the lines before it
pub record RefusesNext (fault : LogFault) (number : ℕ) (s : ScenarioContent) (before : List Line) (ahead behind : Option (List ℕ)) : Type 0 where
  pub line : List ℕ
  pub next : GivesLine ahead behind line
  pub short : length line ≤ 4096
  pub is : IsFault s before line fault.fault
  pub number_is : fault.line ≡ number

-- why the next line wasn't judged: it is refused, a read failed, or memory ran out
abbrev pub StopsReading : Status → Type 0 → (LogFault → Type 0) → Type 0
StopsReading (NotALog fault) unread Refuses = Refuses fault
StopsReading ReadFault unread Refuses = unread
StopsReading NoMemory unread Refuses = Unit {0}
StopsReading _ unread Refuses = ⊥

-- the judging has continued from an earlier state
pub record JudgingGoesOn (from now : LogJudge) (ahead_from ahead written_from written : Option (List ℕ)) (number : ℕ) : Type 0 where
  pub stands : (s : ScenarioContent) × (terms : Terms) × (before : List Line) × JudgeStands now s terms before
  pub goes : (left old : Option (List ℕ)) (s : ScenarioContent) (terms : Terms) → IsJudging left ahead_from old written_from s terms from 2
      → IsJudging left ahead old written s terms now number
