-- The state of a cabinet between rounds, and what a round adds to it. The journal of a round lists the pass of each
-- item, in order. Lists of rounds have the newest first.
use Rattle.std.specs.Prelude.{ℕ, ◌+◌, ◌≡◌, ◌⊎◌, List, [], ◌∷◌, ◌++◌, Option, Some, None}
use Rattle.arrayvec.specs.ArrayVec.{ArrayVec}
use Rattle.scenario_data.specs.Content.{CabinetContent, ScenarioContent}
use Rattle.sig_types.specs.Items.{Item}
use Rattle.sig_types.specs.Replies.{Reply as Answer}
use Rattle.cabinet_history.specs.declared.Reply.{Reply}
use Rattle.cabinet_history.specs.CabinetHistory.{CabinetHistory, opened, after}
use Rattle.cabinet_history.specs.Journals.{Act, acts_of, items_in}
use Rattle.cabinet_history.specs.CabinetAnswers.{acts_replies}
use Rattle.master_rounds.specs.Rounds.{streams_of}
use Rattle.runnable.specs.Cabinets.{opening_history}

-- the state of a cabinet between rounds: its content, its cabinet history, and its answers, round by round. The
-- answers of one round are in order
pub record CabinetState : Type 0 where
  pub cabinet : CabinetContent
  pub cabinet_history : CabinetHistory
  pub answered : List (List Answer)

-- the state of a cabinet before any round
abbrev pub opened_cabinet_state : ScenarioContent → CabinetContent → CabinetState
opened_cabinet_state s c = record { cabinet = c; cabinet_history = opened s.community (opening_history c); answered = [] }

-- the streams of the next round: inputs, three streams of messages, and ticks
abbrev pub coming_streams : ScenarioContent → ℕ → CabinetState → List (List Item)
coming_streams s cab t = streams_of s cab t.cabinet t.answered

-- the acts of the next round, in the order of its journal
abbrev pub round_acts : ScenarioContent → ℕ → CabinetState → List ℕ → List Act
round_acts s cab t journal = acts_of (coming_streams s cab t) journal

-- the answer that a reply gives; none if the cabinet didn't reply
abbrev pub answer_of : ℕ → Option (ArrayVec ℕ) → List Answer
answer_of pass None = []
answer_of pass (Some octets) = record { pass = pass; octets = octets.items } ∷ []

-- the answers in these replies
abbrev pub answers_in : List Reply → List Answer
answers_in [] = []
answers_in (r ∷ replies) = answer_of r.pass r.text ++ answers_in replies

-- the state of the cabinet after a round with this journal
abbrev pub next_cabinet_state : ScenarioContent → ℕ → CabinetState → List ℕ → CabinetState
next_cabinet_state s cab t journal = record {
  cabinet = t.cabinet;
  cabinet_history = after t.cabinet_history (items_in (round_acts s cab t journal));
  answered = answers_in (acts_replies t.cabinet_history (round_acts s cab t journal)) ∷ t.answered;
}

-- the states of all cabinets before any round
abbrev pub opened_cabinet_states : ScenarioContent → List CabinetContent → List CabinetState
opened_cabinet_states s [] = []
opened_cabinet_states s (c ∷ cabinets) = opened_cabinet_state s c ∷ opened_cabinet_states s cabinets

-- the state of each cabinet after a round with these journals; cabinets are numbered from `first`
abbrev pub each_cabinet_state : ScenarioContent → ℕ → List CabinetState → List (List ℕ) → List CabinetState
each_cabinet_state s first (t ∷ ts) (journal ∷ journals) = next_cabinet_state s first t journal ∷ each_cabinet_state s (first + 1) ts journals
each_cabinet_state s first _ _ = []

-- the state of each cabinet after several rounds with these journals, the oldest round first
abbrev pub cabinet_states_after : ScenarioContent → List CabinetState → List (List (List ℕ)) → List CabinetState
cabinet_states_after s ts [] = ts
cabinet_states_after s ts (journals ∷ later) = cabinet_states_after s (each_cabinet_state s 1 ts journals) later

-- the cabinet with number `cab` has the state `t`; the list has the states of the cabinets from number `first` on
abbrev pub HasComeTo : ℕ → CabinetState → ℕ → List CabinetState → Type 0
HasComeTo cab t first [] = ⊥
HasComeTo cab t first (u ∷ ts) = ((cab ≡ first) × (t ≡ u)) ⊎ HasComeTo cab t (first + 1) ts
