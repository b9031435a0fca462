-- The lines after the first, as bytes, of the smallest run and of texts that differ from it.
use Rattle.std.specs.Prelude.{ℕ, ◌≡◌, List, [], ◌∷◌, ◌++◌, codes}
use Rattle.trace_text.specs.declared.lines.Line.{Line}
use Rattle.safety_laws.specs.TraceText.{lines_text}
use Rattle.scenario_data.specs.Content.{ScenarioContent}
use Rattle.trace_laws.specs.Traces.{IsTraceOf}

-- the text of these lines, each with its newline
abbrev pub ended : List (List ℕ) → List ℕ
ended [] = []
ended (line ∷ lines) = line ++ 10 ∷ ended lines

-- the F line of the smallest run before any tick
abbrev pub dark : List ℕ
dark = codes "F 1 0 RRRRRRRRRRRRRRRR DDDDDDDDDDDDDDDD S 0 0 0"

-- the lines of the smallest run after its first line, without the Z line
abbrev pub small_lines : List (List ℕ)
small_lines = dark ∷ codes "R 1" ∷ codes "J 1 4*1" ∷ []

-- a run of the scenario has these bytes after its first line
abbrev pub IsBehindFirst : ScenarioContent → List ℕ → Type 0
IsBehindFirst s text = (lines : List Line) × IsTraceOf s lines × (text ≡ lines_text lines)
