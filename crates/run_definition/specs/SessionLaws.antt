-- What is promised of a session: it is a run of the resulting scenario with its own journals, and no answer depends
-- on a later request.
use Rattle.std.specs.Prelude.{◌≡◌, ℕ, List, ◌++◌, length}
use Rattle.scenario_data.specs.Content.{ScenarioContent}
use Rattle.run_definition.specs.Lines.{rest_lines, run_lines}
use Rattle.run_definition.specs.Orders.{AreJournals}
use Rattle.run_definition.specs.Safe.{AllKept}
use Rattle.run_definition.specs.SessionAnswers.{Answer, answers, answers_so_far, rounds_by}
use Rattle.run_definition.specs.SessionRecord.{resulting, session_journals, lines_in, in_trace_order}

-- the session with these requests is a run of the resulting scenario, for any compact text of it. The session's
-- journals are journals of this scenario. The lines of the answers, in the order of a trace, are the lines of the run
-- after its S line. By the lines of the run every street is safe, versions are whole, the tables in force are those
-- of whole accepted downloads, and coordination is met
pub record SessionIsRun (s : ScenarioContent) (lines : List (List ℕ)) (compact : List ℕ) : Type 0 where
  pub journals : AreJournals (resulting s (rounds_by s lines) compact) (session_journals s (rounds_by s lines))
  pub told : in_trace_order (length s.cabinets) (lines_in (answers s lines))
      ≡ rest_lines (resulting s (rounds_by s lines) compact) (session_journals s (rounds_by s lines))
  pub kept : AllKept (resulting s (rounds_by s lines) compact) (session_journals s (rounds_by s lines))
      (run_lines (resulting s (rounds_by s lines) compact) (session_journals s (rounds_by s lines)))

-- regardless of the requests after them, the first answers are those to the scenario and to these requests
abbrev pub NeedsNoMore : ScenarioContent → List (List ℕ) → List (List ℕ) → Type 0
NeedsNoMore s lines more = (later : List Answer) × (answers s (lines ++ more) ≡ answers_so_far s lines ++ later)
