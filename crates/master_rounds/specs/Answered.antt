-- What the master and the link have reached between two rounds, by what a cabinet has answered so far. Lists of
-- rounds have the newest first.
use Rattle.std.specs.Prelude.{ℕ, ◌+◌, ◌≡◌, ◌<◌, List, [], ◌∷◌, map, length, get_or}
use Rattle.sig_types.specs.declared.streams.Answers.{Answers}
use Rattle.sig_types.specs.Items.{texts_of}
use Rattle.sig_types.specs.Replies.{Reply, replied_on}
use Rattle.scenario_data.specs.Content.{CabinetContent, ScenarioContent}
use Rattle.link_sim.specs.StreamFrames.{Passed}
use Rattle.master_poll.specs.Sends.{Arrived}
use Rattle.master_rounds.specs.Rounds.{arrived_of, arrivals, polls_sent, loads_sent}

-- what had arrived from the cabinet at the master's turn in each round so far
abbrev pub arrivals_before : ScenarioContent → ℕ → List (List Reply) → List Arrived
arrivals_before s cab [] = []
arrivals_before s cab (replies ∷ before) = arrivals s cab before

-- what has arrived for the master's turn in the next round
abbrev pub arrived_since : ScenarioContent → ℕ → List (List Reply) → Arrived
arrived_since s cab [] = record { polls = []; loads = [] }
arrived_since s cab (replies ∷ before) = arrived_of s cab (replies ∷ before)

-- what was sent on the poll stream in each round so far
abbrev pub polls_before : ScenarioContent → ℕ → CabinetContent → List (List Reply) → List (List (List ℕ))
polls_before s cab c [] = []
polls_before s cab c (replies ∷ before) = polls_sent s cab c before

-- what was sent on the load stream in each round so far
abbrev pub loads_before : ScenarioContent → ℕ → CabinetContent → List (List Reply) → List (List (List ℕ))
loads_before s cab c [] = []
loads_before s cab c (replies ∷ before) = loads_sent s cab c before

-- what the cabinet has replied, stream by stream
abbrev pub replied_before : List (List Reply) → Passed
replied_before answered = record {
  polls = map (replied_on 1) answered;
  loads = map (replied_on 2) answered;
  prios = map (replied_on 3) answered;
}

-- these are the replies of a round on each stream
pub record AreReplies (answers : Answers) (replies : List Reply) : Type 0 where
  pub polls : texts_of answers.polls.items ≡ replied_on 1 replies
  pub loads : texts_of answers.loads.items ≡ replied_on 2 replies
  pub prios : texts_of answers.prios.items ≡ replied_on 3 replies

-- these are the replies of a round on each stream, for each cabinet
abbrev pub AreAllReplies : List Answers → (ℕ → List Reply) → Type 0
AreAllReplies answers replies = (place : ℕ) (a : Answers) → place < length answers → AreReplies (get_or answers place a) (replies (place + 1))

-- what the cabinets have answered, with one more round
abbrev pub with_replies : (ℕ → List Reply) → (ℕ → List (List Reply)) → ℕ → List (List Reply)
with_replies replies answered cab = replies cab ∷ answered cab

-- there are no answers
pub record IsEmpty (answers : Answers) : Type 0 where
  pub polls : answers.polls.items ≡ []
  pub loads : answers.loads.items ≡ []
  pub prios : answers.prios.items ≡ []
