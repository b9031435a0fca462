-- What the text of a run says: it is the text of only one list of lines, and the promises hold by these lines.
use Rattle.std.specs.Prelude.{ℕ, ◌≡◌, List}
use Rattle.trace_text.specs.declared.lines.Line.{Line}
use Rattle.safety_laws.specs.TraceText.{AreLines, lines_text}
use Rattle.scenario_data.specs.Content.{ScenarioContent}
use Rattle.run_definition.specs.Safe.{AllKept}

-- the text is that of these lines, and of no other lines of a trace
pub record IsTextOf (text : List ℕ) (lines : List Line) : Type 0 where
  pub proper : AreLines lines
  pub written : text ≡ lines_text lines
  pub only : (others : List Line) → AreLines others → text ≡ lines_text others → others ≡ lines

-- the text determines its lines. By these lines and with these journals, the street of each cabinet is safe, its
-- versions are whole, its tables are those of whole accepted downloads, and coordination is met
pub record TellsAllKept (s : ScenarioContent) (journals : List (List (List ℕ))) (text : List ℕ) : Type 0 where
  pub lines : List Line
  pub its : IsTextOf text lines
  pub kept : AllKept s journals lines
