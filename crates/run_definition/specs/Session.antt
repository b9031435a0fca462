-- What a session brings to its cabinets, round by round, and the states that result. The requests of the session are
-- added to what the master, the link and the scenario bring. Lists of rounds have the newest first; the steps of a
-- round are in order.
use Rattle.std.specs.Prelude.{ℕ, ◌+◌, ◌-◌, ◌==◌, Bool, if◌then◌else◌, List, [], ◌∷◌, ◌++◌, length, replicate, take}
use Rattle.sig_types.specs.Items.{Item, InputTold, Came, Ticked}
use Rattle.sig_types.specs.Passes.{pass_of}
use Rattle.scenario_data.specs.Content.{ScenarioContent}
use Rattle.cabinet_history.specs.CabinetHistory.{CabinetHistory, after}
use Rattle.cabinet_history.specs.Journals.{Act, acts_of, items_in, serial}
use Rattle.cabinet_history.specs.CabinetAnswers.{acts_replies}
use Rattle.run_definition.specs.CabinetState.{CabinetState, answers_in, coming_streams, opened_cabinet_states}
use Rattle.session_words.specs.declared.request.Request.{Request}
use Rattle.session_words.specs.declared.request.Request.TheVariants.{Tick, Input, Frame}

-- the effect of an accepted request: each cabinet runs this many ticks, or a pass brings an item to one cabinet
pub data Step : Type 0 where
  Ticks : (many : ℕ) → Step
  Brings : (cab pass : ℕ) (item : Item) → Step

-- the step of a request
abbrev pub step_of : Request → Step
step_of (Tick many) = Ticks many
step_of (Input cab field) = Brings cab 0 (InputTold field)
step_of (Frame cab way octets) = Brings cab (pass_of way) (Came octets.items)

-- the history of a session: the steps of the closed rounds, and the steps of the present round
pub record SessionHistory : Type 0 where
  pub closed : List (List Step)
  pub steps : List Step

-- the history of a session before any request
abbrev pub opened_session : SessionHistory
opened_session = record { closed = []; steps = [] }

-- the acts of a step at a cabinet
abbrev pub step_acts : ℕ → Step → List Act
step_acts cab (Ticks many) = replicate many (record { pass = 4; item = Ticked })
step_acts cab (Brings to pass item) = if to == cab then record { pass = pass; item = item } ∷ [] else []

-- the acts of these steps at a cabinet, in order
abbrev pub steps_acts : ℕ → List Step → List Act
steps_acts cab [] = []
steps_acts cab (step ∷ steps) = step_acts cab step ++ steps_acts cab steps

-- what the master, the link and the scenario bring to a cabinet before any tick of the next round: all inputs, then
-- the messages of each stream
abbrev pub begin_acts : ScenarioContent → ℕ → CabinetState → List Act
begin_acts s cab t = acts_of (coming_streams s cab t) (serial (take 4 (coming_streams s cab t)))

-- all acts at a cabinet in a round with these steps
abbrev pub session_acts : ScenarioContent → ℕ → CabinetState → List Step → List Act
session_acts s cab t steps = begin_acts s cab t ++ steps_acts cab steps

-- the cabinet history after these steps of the round
abbrev pub history_by : ScenarioContent → ℕ → CabinetState → List Step → CabinetHistory
history_by s cab t steps = after t.cabinet_history (items_in (session_acts s cab t steps))

-- the state of the cabinet after a round with these steps
abbrev pub state_after_round : ScenarioContent → ℕ → CabinetState → List Step → CabinetState
state_after_round s cab t steps = record {
  cabinet = t.cabinet;
  cabinet_history = history_by s cab t steps;
  answered = answers_in (acts_replies t.cabinet_history (session_acts s cab t steps)) ∷ t.answered;
}

-- the state of each cabinet after a round with these steps; cabinets are numbered from `first`
abbrev pub states_after_round : ScenarioContent → ℕ → List CabinetState → List Step → List CabinetState
states_after_round s first [] steps = []
states_after_round s first (t ∷ ts) steps = state_after_round s first t steps ∷ states_after_round s (first + 1) ts steps

-- the state of each cabinet after rounds with these steps
abbrev pub states_after : ScenarioContent → List (List Step) → List CabinetState
states_after s [] = opened_cabinet_states s s.cabinets
states_after s (steps ∷ before) = states_after_round s 1 (states_after s before) steps

-- the number of ticks in these steps
abbrev pub ticks_in : List Step → ℕ
ticks_in [] = 0
ticks_in (Ticks many ∷ steps) = many + ticks_in steps
ticks_in (Brings cab pass item ∷ steps) = ticks_in steps

-- the number of ticks left in a round after these steps
abbrev pub ticks_left_after : ScenarioContent → List Step → ℕ
ticks_left_after s steps = s.ticks - ticks_in steps

-- the number of ticks left in the present round
abbrev pub ticks_left : ScenarioContent → SessionHistory → ℕ
ticks_left s h = ticks_left_after s h.steps

-- the number of items that these steps bring
abbrev pub items_brought : List Step → ℕ
items_brought [] = 0
items_brought (Ticks many ∷ steps) = items_brought steps
items_brought (Brings cab pass item ∷ steps) = items_brought steps + 1

-- the steps of the present round, with one more step
abbrev pub steps_with : SessionHistory → Step → List Step
steps_with h step = h.steps ++ step ∷ []

-- the step is the last of its round: no tick is left after it
abbrev pub is_last : ScenarioContent → SessionHistory → Step → Bool
is_last s h step = ticks_left_after s (steps_with h step) == 0

-- the session after its present round is closed with these steps
abbrev pub with_round : SessionHistory → List Step → SessionHistory
with_round h steps = record { closed = steps ∷ h.closed; steps = [] }

-- the session after one more step
abbrev pub with_step : ScenarioContent → SessionHistory → Step → SessionHistory
with_step s h step =
    if is_last s h step then with_round h (steps_with h step) else record { closed = h.closed; steps = steps_with h step }

-- the steps of the present round if the input ends now: the last step has all ticks that are left
abbrev pub steps_to_end : ScenarioContent → SessionHistory → List Step
steps_to_end s h = steps_with h (Ticks (ticks_left s h))

-- the session is over: all its rounds are closed
abbrev pub is_over : ScenarioContent → SessionHistory → Bool
is_over s h = length h.closed == s.rounds
