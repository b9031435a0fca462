-- Laws of traces. The lines so far determine the next line, except for journals. The text of a trace determines its
-- journals. Every prefix can be continued. A text has at most one first fault.
use Rattle.std.specs.Prelude.{ℕ, ◌≡◌, ◌≢◌, ◌⊎◌, List, [], ◌++◌}
use Rattle.trace_text.specs.declared.lines.Line.{Line}
use Rattle.trace_text.specs.declared.lines.Line.TheVariants.{J}
use Rattle.trace_text.specs.Line.{line_text}
use Rattle.trace_text.specs.IsLine.{IsLine}
use Rattle.safety_laws.specs.TraceText.{AreLines}
use Rattle.scenario_data.specs.Content.{ScenarioContent}
use Rattle.scenario_read.specs.Answers.{IsScenario}
use Rattle.runnable.specs.Runnable.{Runnable}
use Rattle.run_definition.specs.Lines.{front_lines, run_text}
use Rattle.run_definition.specs.Orders.{AreJournals, BeginJournals}
use Rattle.trace_laws.specs.Text.{TellsAllKept}
use Rattle.trace_laws.specs.Traces.{IsTrace, IsCheckable, IsTraceOf, IsFrontOf, MayFollow}
use Rattle.trace_laws.specs.Faults.{first_piece, FirstFault}

-- the lines are the same, or both are journals of one cabinet
abbrev pub SameButJournals : Line → Line → Type 0
SameButJournals a b =
    (a ≡ b) ⊎ ((cab : ℕ) × (runs : List (ℕ × ℕ)) × (others : List (ℕ × ℕ)) × (a ≡ J cab runs) × (b ≡ J cab others))

-- any two lines that may follow a prefix are the same, or both are journals of one cabinet
abbrev pub DueIsDetermined : Type 0
DueIsDetermined = (s : ScenarioContent) (before : List Line) (a b : Line) → MayFollow s before a → MayFollow s before b → SameButJournals a b

-- if these are journals of the first rounds, a run begins with the lines of these rounds
abbrev pub RoundsAreFronts : Type 0
RoundsAreFronts = (s : ScenarioContent) (journals : List (List (List ℕ))) → BeginJournals s journals → IsFrontOf s (front_lines s journals)

-- no line follows the last line of a run
abbrev pub NothingFollows : Type 0
NothingFollows = (s : ScenarioContent) (lines : List Line) (next : Line) → IsTraceOf s lines → MayFollow s lines next → ⊥

-- the text of a trace determines its scenario and its journals
abbrev pub JournalsAreTold : Type 0
JournalsAreTold = (s t : ScenarioContent) (journals others : List (List (List ℕ))) → IsScenario s.compact s → IsScenario t.compact t
    → AreJournals s journals → AreJournals t others → run_text s journals ≡ run_text t others → (s ≡ t) × (journals ≡ others)

-- a text has at most one first fault
abbrev pub FaultsAreDetermined : Type 0
FaultsAreDetermined = (text : List ℕ) (line rule at also : ℕ) → FirstFault text line rule → FirstFault text at also → (line ≡ at) × (rule ≡ also)

-- a trace that is not too long has no first fault
abbrev pub TracesHaveNoFault : Type 0
TracesHaveNoFault = (text : List ℕ) (line rule : ℕ) → IsCheckable text → IsTrace text → FirstFault text line rule → ⊥

-- each text is a trace or has a first fault: no text is without both
abbrev pub NothingElse : Type 0
NothingElse = (text : List ℕ) → (IsTrace text → ⊥) → ((line rule : ℕ) → FirstFault text line rule → ⊥) → ⊥

-- what follows if a text is a trace: its scenario can be run, and every promise holds by its lines
pub record TellsOfRun (text : List ℕ) : Type 0 where
  pub scenario : ScenarioContent
  pub journals : List (List (List ℕ))
  pub told : IsScenario scenario.compact scenario
  pub runs : Runnable scenario
  pub are : AreJournals scenario journals
  pub text_is : text ≡ run_text scenario journals
  pub kept : TellsAllKept scenario journals text

-- each line of a prefix of a trace is a line of a trace in the sense of `IsLine`
abbrev pub FrontsAreProper : Type 0
FrontsAreProper = (s : ScenarioContent) (before : List Line) → Runnable s → IsFrontOf s before → AreLines before

-- what the text of lines determines. Its beginning determines the first line and where this line ends; this line is
-- the first piece of the text, and it isn't empty
pub record LinesTell : Type 0 where
  pub told : (a b : Line) (x y : List ℕ) → IsLine a → IsLine b → line_text a ++ x ≡ line_text b ++ y → (a ≡ b) × (x ≡ y)
  pub piece : (a : Line) (x : List ℕ) → IsLine a → first_piece (line_text a ++ x) ≡ line_text a
  pub some : (a : Line) (x : List ℕ) → IsLine a → line_text a ++ x ≢ []
