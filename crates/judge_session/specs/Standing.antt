-- The state of a judge represents the lines of a log: it is what looking back over the lines gives.
use Rattle.std.specs.Prelude.{ℕ, ◌≡◌, ◌+◌, ◌<◌, ◌≤◌, ◌++◌, Bool, List, [], ◌∷◌, length, get_or, Option, Some, None, IfSome, Result, Ok, Err}
use Rattle.sig_tables.specs.declared.tables.Tables.{Tables}
use Rattle.trace_text.specs.declared.lines.Line.{Line}
use Rattle.safety_laws.specs.Safe.{Indications, told}
use Rattle.safety_laws.specs.Whole.{downloads}
use Rattle.scenario_data.specs.Content.{ScenarioContent, scenario_content}
use Rattle.judge_laws.specs.declared.Terms.{Terms}
use Rattle.judge_laws.specs.declared.Breach.{Breach}
use Rattle.judge_laws.specs.Overrun.{last_tick}
use Rattle.judge_laws.specs.TablesTold.{version_told}
use Rattle.judge.specs.declared.cabinet.CabinetJudge.{CabinetJudge}
use Rattle.judge.specs.Cabinet.{AllFollow}
use Rattle.judge.specs.InForce.{IsInForce}
use Rattle.judge_session.specs.declared.faults.NotTaken.{NotTaken}
use Rattle.judge_session.specs.declared.faults.NotTaken.TheVariants.{Refused, NoMemory}
use Rattle.judge_session.specs.declared.watch.CabinetWatch.{CabinetWatch}
use Rattle.judge_session.specs.declared.log.LogJudge.{LogJudge}
use Rattle.judge_session.specs.Told.{load_told, opening_at, in_force_told, is_known}
use Rattle.judge_session.specs.Log.{IsRead, fault_of}
use Rattle.judge_session.specs.Report.{log_found, breaches_text, line_report}

-- the tick of a cabinet's newest line
abbrev pub last_of : List (ℕ × Indications) → Option ℕ
last_of [] = None
last_of (line ∷ older) = Some line.0

-- these are the tables of each known version of a cabinet, according to some lines
abbrev pub AreTold : ScenarioContent → ℕ → List Line → (ℕ → Tables) → Type 0
AreTold s cab before tables =
    (version : ℕ) (t : Tables) → version_told (load_told s cab) (opening_at s cab) cab before version ≡ Some t → tables version ≡ t

-- the registers of a cabinet represent its lines, regardless of the tables of later versions
abbrev pub JudgesBy : CabinetJudge → ScenarioContent → Bool → ℕ → List Line → Type 0
JudgesBy judge s joined cab before = (tables : ℕ → Tables) → AreTold s cab before tables → AllFollow judge joined tables (told cab before)

-- the state of the cabinet with this number represents these lines; a cabinet whose tables are unknown isn't judged
pub record WatchStands (w : CabinetWatch) (s : ScenarioContent) (joined : Bool) (cab : ℕ) (before : List Line) : Type 0 where
  pub version : w.version ≡ downloads cab before
  pub last : w.last ≡ last_of (told cab before)
  pub known : w.known ≡ is_known s cab before
  pub in_force : IfSome (in_force_told s cab before) (IsInForce w.in_force)
  pub judged : IfSome (in_force_told s cab before) (λ t. JudgesBy w.judge s joined cab before)

-- the state of the judge represents these lines of a log, newest first
pub record JudgeStands (judge : LogJudge) (s : ScenarioContent) (terms : Terms) (before : List Line) : Type 0 where
  pub scenario : scenario_content judge.scenario ≡ s
  pub by : judge.terms ≡ terms
  pub few : length s.cabinets ≤ 64
  pub many : length judge.cabinets.items ≡ length s.cabinets
  pub each : (k : ℕ) (w : CabinetWatch) → k < length s.cabinets → WatchStands (get_or judge.cabinets.items k w) s terms.joined (k + 1) before
  pub last : judge.last ≡ last_tick before
  pub breaches : judge.breaches ≡ length (log_found s terms before)

-- a line can follow: the new state represents the lines with it, and its report was appended to a text
pub record FollowsOn (new : LogJudge) (s : ScenarioContent) (terms : Terms) (before : List Line) (line : Line) (text_before text : List ℕ) : Type 0 where
  pub follows : fault_of s before line ≡ None
  pub report : text ≡ text_before ++ line_report s terms before line
  pub stands : JudgeStands new s terms (line ∷ before)

-- these bytes are those of such a line
pub record Takes (new : LogJudge) (s : ScenarioContent) (terms : Terms) (before : List Line) (bytes text_before text : List ℕ) : Type 0 where
  pub line : Line
  pub read : IsRead bytes line
  pub on : FollowsOn new s terms before line text_before text

-- the result for a line. The line follows; or it can't for this fault, and judge and text are unchanged. If memory runs
-- out, nothing is claimed
abbrev pub Follows : Result (Unit {0}) NotTaken → LogJudge → LogJudge → Line → List ℕ → List ℕ → Type 0
Follows (Ok done) old new line text_before text =
    (s : ScenarioContent) (terms : Terms) (before : List Line) → JudgeStands old s terms before → FollowsOn new s terms before line text_before text
Follows (Err (Refused fault)) old new line text_before text =
    (new ≡ old) × (text ≡ text_before) × ((s : ScenarioContent) (terms : Terms) (before : List Line) → JudgeStands old s terms before → fault_of s before line ≡ Some fault)
Follows (Err NoMemory) old new line text_before text = Unit {0}

-- the report's lines of these breaches were appended to a text, and their number was added to a count
pub record Adds (text_before text : List ℕ) (count_before count : ℕ) (breaches : List Breach) : Type 0 where
  pub appended : text ≡ text_before ++ breaches_text breaches
  pub counted : count ≡ count_before + length breaches
