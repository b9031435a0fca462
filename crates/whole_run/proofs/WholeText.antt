-- The text of a run in its parts.
use Rattle.std.proofs.Common.{◌≡◌, ◌≢◌, ◌+◌, ◌∙◌, ℕ, suc, List, [], ◌∷◌, ◌++◌, length, sym, ap, append-nil}
use Rattle.trace_text.specs.Line.{line_text}
use Rattle.trace_text.specs.declared.lines.Line.{Line}
use Rattle.trace_text.specs.declared.lines.Line.TheVariants.{R, S, Z}
use Rattle.safety_laws.specs.TraceText.{lines_text}
use Rattle.scenario_data.specs.Content.{ScenarioContent}
use Rattle.run_definition.specs.CabinetState.{CabinetState, opened_cabinet_states, each_cabinet_state}
use Rattle.run_definition.specs.Orders.{serial_round, serial_rounds}
use Rattle.run_definition.specs.Lines.{notes_lines, each_lines, round_lines, opening_lines, rounds_lines, front_lines, rest_lines, run_text}
use Rattle.run_definition.proofs.More.{fronts-more}
use Rattle.trace_text.proofs.Ends.{some_text}
use Rattle.trace_writer.proofs.Writing.{some_behind}
use Rattle.whole_run.specs.Orders.{come_to}
use Rattle.trace_tell.proofs.Texts.{text_append}
use Rattle.whole_run.specs.PenLaws.{text_some}

-- after the scenario: the rounds with what is shown before them, and the end
pub rest_spelled : (s : ScenarioContent) (js : List (List (List ℕ))) → lines_text (rest_lines s js) ≡ lines_text (front_lines s js) ++ line_text (Z s.rounds)
rest_spelled s js =
    text_append (front_lines s js) (Z s.rounds ∷ [])
    ∙ ap (λ (x : List ℕ). lines_text (front_lines s js) ++ x) (append-nil (line_text (Z s.rounds)))

pub rest_some : (s : ScenarioContent) (js : List (List (List ℕ))) → lines_text (rest_lines s js) ≢ []
rest_some s js = rw (rest_spelled s js) (some_behind (lines_text (front_lines s js)) (line_text (Z s.rounds)) (some_text (Z s.rounds)))

pub trace_some : (s : ScenarioContent) (js : List (List (List ℕ))) → run_text s js ≢ []
trace_some s js = text_some (S s.compact) (rest_lines s js)
