-- What a session answers: lines of a trace, or the reason why a request isn't accepted. The lines are those of a run:
-- the lines of items, the journals at the end of a round, and the head of the next round.
use Rattle.std.specs.Prelude.{ℕ, ◌+◌, ◌==◌, nat_le, if◌then◌else◌, List, [], ◌∷◌, ◌++◌, length, Result, Ok, Err}
use Rattle.trace_text.specs.declared.lines.Line.{Line}
use Rattle.trace_text.specs.declared.lines.Line.TheVariants.{J, Z}
use Rattle.scenario_data.specs.Content.{ScenarioContent}
use Rattle.cabinet_history.specs.Journals.{Act, runs_of}
use Rattle.run_definition.specs.CabinetState.{CabinetState, opened_cabinet_states}
use Rattle.run_definition.specs.Lines.{acts_lines, head_lines, opening_lines}
use Rattle.session_words.specs.declared.request.Request.{Request}
use Rattle.session_words.specs.declared.request.Request.TheVariants.{Tick}
use Rattle.session_words.specs.declared.request.Untaken.{Untaken}
use Rattle.session_words.specs.declared.request.Untaken.TheVariants.{Full}
use Rattle.session_words.specs.Requests.{request_of}
use Rattle.run_definition.specs.Session.{SessionHistory, Step, Ticks, opened_session, step_of, step_acts, begin_acts, session_acts, history_by, states_after, ticks_left, items_brought, steps_with, is_last, with_step, steps_to_end, is_over}

-- the passes of these acts; they are the journal of these acts
abbrev pub passes_in : List Act → List ℕ
passes_in [] = []
passes_in (act ∷ acts) = act.pass ∷ passes_in acts

-- the journal of a cabinet in a round with these steps
abbrev pub journal_by : ScenarioContent → ℕ → CabinetState → List Step → List ℕ
journal_by s cab t steps = passes_in (session_acts s cab t steps)

-- the lines of what reaches each cabinet before any tick of the next round; cabinets are numbered from `first`
abbrev pub each_begin : ScenarioContent → ℕ → List CabinetState → List Line
each_begin s first [] = []
each_begin s first (t ∷ ts) = acts_lines first t.cabinet_history (begin_acts s first t) ++ each_begin s (first + 1) ts

-- the lines with which a round begins: its number, the master's notes, and what reaches the cabinets before any tick
abbrev pub begin_lines : ScenarioContent → ℕ → List CabinetState → List Line
begin_lines s round ts = head_lines s round ts ++ each_begin s 1 ts

-- the lines of a step after other steps of its round, cabinet by cabinet
abbrev pub each_step : ScenarioContent → ℕ → List CabinetState → List Step → Step → List Line
each_step s first [] steps step = []
each_step s first (t ∷ ts) steps step =
    acts_lines first (history_by s first t steps) (step_acts first step) ++ each_step s (first + 1) ts steps step

-- the J lines of a round with these steps; cabinets are numbered from `first`
abbrev pub each_journal : ScenarioContent → ℕ → List CabinetState → List Step → List Line
each_journal s first [] steps = []
each_journal s first (t ∷ ts) steps = J first (runs_of (journal_by s first t steps)) ∷ each_journal s (first + 1) ts steps

-- the lines after a round: the beginning of the next round, or the Z line if all rounds are closed. `closed` is the
-- number of closed rounds, and the cabinets have these states
abbrev pub next_lines : ScenarioContent → ℕ → List CabinetState → List Line
next_lines s closed ts = if closed == s.rounds then Z closed ∷ [] else begin_lines s (closed + 1) ts

-- the lines at the end of the present round, which has these steps
abbrev pub end_lines : ScenarioContent → SessionHistory → List Step → List Line
end_lines s h steps =
    each_journal s 1 (states_after s h.closed) steps ++ next_lines s (length h.closed + 1) (states_after s (steps ∷ h.closed))

-- the lines of a step: those of the cabinets, and, if the step is the last of its round, those at the end of the
-- round
abbrev pub step_lines : ScenarioContent → SessionHistory → Step → List Line
step_lines s h step =
    each_step s 1 (states_after s h.closed) h.steps step ++ (if is_last s h step then end_lines s h (steps_with h step) else [])

-- the lines at the end of the input: those of the ticks left in the round, its journals, and the Z line
abbrev pub end_of_input_lines : ScenarioContent → SessionHistory → List Line
end_of_input_lines s h =
    each_step s 1 (states_after s h.closed) h.steps (Ticks (ticks_left s h))
    ++ (each_journal s 1 (states_after s h.closed) (steps_to_end s h) ++ Z (length h.closed + 1) ∷ [])

-- the lines of the answer to a scenario: the F lines before any tick, and the beginning of the first round
abbrev pub open_lines : ScenarioContent → List Line
open_lines s =
    opening_lines 1 (opened_cabinet_states s s.cabinets) ++ begin_lines s 1 (opened_cabinet_states s s.cabinets)

-- the request is accepted only if the session has brought fewer than 100,000 items in this round. Ticks are always
-- accepted
abbrev pub with_room : SessionHistory → Request → Result Request Untaken
with_room h (Tick many) = Ok (Tick many)
with_room h request = if nat_le 100000 (items_brought h.steps) then Err Full else Ok request

abbrev pub with_room_for : SessionHistory → Result Request Untaken → Result Request Untaken
with_room_for h (Ok request) = with_room h request
with_room_for h (Err untaken) = Err untaken

-- the request in a line, or the reason why it isn't accepted
abbrev pub taken : ScenarioContent → SessionHistory → List ℕ → Result Request Untaken
taken s h line = with_room_for h (request_of (length s.cabinets) (ticks_left s h) line)

-- an answer: lines of a trace, or the reason why a request isn't accepted
pub data Answer : Type 0 where
  Lines : (lines : List Line) → Answer
  NotTaken : (untaken : Untaken) → Answer

-- the answer to a request
abbrev pub answer_by : ScenarioContent → SessionHistory → Result Request Untaken → Answer
answer_by s h (Ok request) = Lines (step_lines s h (step_of request))
answer_by s h (Err untaken) = NotTaken untaken

-- the session after a request
abbrev pub next_by : ScenarioContent → SessionHistory → Result Request Untaken → SessionHistory
next_by s h (Ok request) = with_step s h (step_of request)
next_by s h (Err untaken) = h

-- the answer to a line
abbrev pub answer_to : ScenarioContent → SessionHistory → List ℕ → Answer
answer_to s h line = answer_by s h (taken s h line)

-- the session after a line; a request that isn't accepted changes nothing
abbrev pub next_session : ScenarioContent → SessionHistory → List ℕ → SessionHistory
next_session s h line = next_by s h (taken s h line)

-- the answers to these lines, and then to the end of the input. Lines after the last round aren't answered
abbrev pub answers_from : ScenarioContent → SessionHistory → List (List ℕ) → List Answer
answers_from s h [] = Lines (end_of_input_lines s h) ∷ []
answers_from s h (line ∷ lines) =
    answer_to s h line
    ∷ (if is_over s (next_session s h line) then [] else answers_from s (next_session s h line) lines)

-- the answers to these lines while the input continues
abbrev pub answers_while : ScenarioContent → SessionHistory → List (List ℕ) → List Answer
answers_while s h [] = []
answers_while s h (line ∷ lines) =
    answer_to s h line
    ∷ (if is_over s (next_session s h line) then [] else answers_while s (next_session s h line) lines)

-- the answers to the scenario and to these lines while the input continues
abbrev pub answers_so_far : ScenarioContent → List (List ℕ) → List Answer
answers_so_far s lines = Lines (open_lines s) ∷ answers_while s opened_session lines

-- the answers of a session: to the scenario, to each line, and to the end of the input
abbrev pub answers : ScenarioContent → List (List ℕ) → List Answer
answers s lines = Lines (open_lines s) ∷ answers_from s opened_session lines

-- the rounds of a session with these lines, each with its steps
abbrev pub rounds_from : ScenarioContent → SessionHistory → List (List ℕ) → List (List Step)
rounds_from s h [] = steps_to_end s h ∷ h.closed
rounds_from s h (line ∷ lines) =
    if is_over s (next_session s h line) then (next_session s h line).closed else rounds_from s (next_session s h line) lines

abbrev pub rounds_by : ScenarioContent → List (List ℕ) → List (List Step)
rounds_by s lines = rounds_from s opened_session lines
