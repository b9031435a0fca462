-- Which texts are traces: the texts of the runs of the scenario in the first line, for all possible journals.
use Rattle.std.specs.Prelude.{ℕ, ◌≡◌, ◌≤◌, List, [], ◌∷◌, ◌++◌, length}
use Rattle.trace_text.specs.declared.lines.Line.{Line}
use Rattle.trace_text.specs.declared.lines.Line.TheVariants.{S}
use Rattle.scenario_data.specs.Content.{ScenarioContent}
use Rattle.scenario_read.specs.Answers.{IsScenario}
use Rattle.run_definition.specs.Lines.{rest_lines, run_text}
use Rattle.run_definition.specs.Orders.{AreJournals}

-- the line is the S line of this scenario, with its compact text
abbrev pub Opens : Line → ScenarioContent → Type 0
Opens line s = (line ≡ S s.compact) × IsScenario s.compact s

-- the text is that of a run: the scenario is in its first line, and the journals say in which order the items arrived
abbrev pub IsTrace : List ℕ → Type 0
IsTrace text = (s : ScenarioContent) × (journals : List (List (List ℕ))) × IsScenario s.compact s × AreJournals s journals
    × (text ≡ run_text s journals)

-- the text is short enough to be checked: it has at most 67,108,864 bytes
abbrev pub IsCheckable : List ℕ → Type 0
IsCheckable text = length text ≤ 67108864

-- these are the lines of a run of this scenario after its S line
abbrev pub IsTraceOf : ScenarioContent → List Line → Type 0
IsTraceOf s lines = (journals : List (List (List ℕ))) × AreJournals s journals × (lines ≡ rest_lines s journals)

-- a run of the scenario begins with these lines after its S line
abbrev pub IsFrontOf : ScenarioContent → List Line → Type 0
IsFrontOf s before = (rest : List Line) × IsTraceOf s (before ++ rest)

-- the line may follow these lines: a run of the scenario begins with all of them
abbrev pub MayFollow : ScenarioContent → List Line → Line → Type 0
MayFollow s before line = IsFrontOf s (before ++ line ∷ [])
