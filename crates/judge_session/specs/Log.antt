-- Which lines form a log, and why a log stops at a line that can't follow. Lists of lines have the newest line first.
use Rattle.std.specs.Prelude.{ℕ, ◌≡◌, ◌+◌, ◌≤◌, ◌==◌, nat_lt, nat_le, not, true, if◌then◌else◌, Bool, List, [], ◌∷◌, ◌++◌, length, map, filter, reverse, Option, Some, None, Ok}
use Rattle.trace_text.specs.declared.lines.Line.{Line}
use Rattle.trace_text.specs.declared.lines.Line.TheVariants.{F, L}
use Rattle.trace_text.specs.IsLine.{IsLine}
use Rattle.trace_text.specs.Line.{line_text}
use Rattle.safety_laws.specs.Safe.{Indications, told}
use Rattle.safety_laws.specs.TraceText.{AreLines}
use Rattle.safety_laws.specs.Whole.{downloads}
use Rattle.scenario_data.specs.Content.{ScenarioContent}
use Rattle.judge_session.specs.declared.faults.LineFault.{LineFault}
use Rattle.judge_session.specs.declared.faults.LineFault.TheVariants.{NotALine, NoCabinet, NotLater, FrameVersion, LoadVersion}
use Rattle.judge_session.specs.Told.{has_cabinet}

-- a tick is later than that of a cabinet's newest line
abbrev pub is_later : ℕ → List (ℕ × Indications) → Bool
is_later tick [] = true
is_later tick (line ∷ older) = nat_lt line.0 tick

-- why an F line of a cabinet of the scenario can't follow these lines: its tick isn't later than that of the cabinet's
-- last F line, or its version isn't the number of downloads that the cabinet has accepted
abbrev pub frame_fault : ℕ → ℕ → ℕ → List Line → Option LineFault
frame_fault tick version cab before =
    if not (is_later tick (told cab before)) then Some NotLater
    else if not (version == downloads cab before) then Some FrameVersion else None

-- why the line of an accepted download can't follow these lines: its version isn't one more than the number of
-- downloads accepted before it
abbrev pub load_fault : ℕ → ℕ → List Line → Option LineFault
load_fault version cab before = if not (version == downloads cab before + 1) then Some LoadVersion else None

-- why a line of a trace can't follow those before it. An F line and the line of an accepted download also can't if the
-- scenario doesn't have their cabinet. Every other line can
abbrev pub fault_of : ScenarioContent → List Line → Line → Option LineFault
fault_of s before (F cab tick veh ped mode counter target version) =
    if not (has_cabinet s cab) then Some NoCabinet else frame_fault tick version cab before
fault_of s before (L cab id (Ok version)) =
    if not (has_cabinet s cab) then Some NoCabinet else load_fault version cab before
fault_of s before _ = None

-- each of these lines can follow those before it
abbrev pub Follow : ScenarioContent → List Line → Type 0
Follow s [] = Unit {0}
Follow s (line ∷ before) = (fault_of s before line ≡ None) × Follow s before

-- the bytes of a line with the newline that ends each line of a trace; lines are read without it
abbrev pub ended : List ℕ → List ℕ
ended bytes = bytes ++ 10 ∷ []

-- the lines that are judged: F lines, and lines of accepted downloads
abbrev pub IsJudged : Line → Type 0
IsJudged (F cab tick veh ped mode counter target version) = Unit {0}
IsJudged (L cab id (Ok version)) = Unit {0}
IsJudged _ = ⊥

-- the lines of at most 4,096 bytes; longer lines are ignored, and never judged
abbrev pub short_lines : List (List ℕ) → List (List ℕ)
short_lines lines = filter (λ line. nat_le (length line) 4096) lines

-- the bytes, line by line, are a log: the lines of at most 4,096 bytes are these lines of a trace, and each of them can
-- follow those before it
pub record IsLog (s : ScenarioContent) (bytes : List (List ℕ)) (before : List Line) : Type 0 where
  pub texts : map ended (short_lines bytes) ≡ map line_text (reverse before)
  pub are : AreLines before
  pub follow : Follow s before

-- the bytes of a line are those of a line of a trace
pub record IsRead (bytes : List ℕ) (line : Line) : Type 0 where
  pub is : IsLine line
  pub text : ended bytes ≡ line_text line

-- why the bytes of a line can't follow these lines: they aren't a line of a trace, or their line can't follow
abbrev pub IsFault : ScenarioContent → List Line → List ℕ → LineFault → Type 0
IsFault s before bytes NotALine = (line : Line) → IsRead bytes line → ⊥
IsFault s before bytes fault = (line : Line) × IsRead bytes line × (fault_of s before line ≡ Some fault)

-- a log stops at the line with this place, counted from 0: the lines before it are a log, and the line, of at most
-- 4,096 bytes, can't follow them
pub record LogStops (s : ScenarioContent) (lines : List (List ℕ)) (place : ℕ) (before : List Line) (fault : LineFault) : Type 0 where
  pub front : List (List ℕ)
  pub line : List ℕ
  pub rest : List (List ℕ)
  pub cut : lines ≡ front ++ line ∷ rest
  pub at : place ≡ length front
  pub log : IsLog s front before
  pub short : length line ≤ 4096
  pub why : IsFault s before line fault
