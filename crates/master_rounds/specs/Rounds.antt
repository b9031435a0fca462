-- The rounds of the master and one cabinet. The replies that have arrived from the cabinet determine what the master
-- sends, and this determines what reaches the cabinet. Everything depends only on the scenario and on the replies of
-- the rounds so far. Lists of rounds have the newest first.
use Rattle.std.specs.Prelude.{ℕ, ◌≡◌, ◌+◌, ◌==◌, if◌then◌else◌, List, [], ◌∷◌, map, length, replicate}
use Rattle.std.specs.Option.{option_to_list}
use Rattle.sig_types.specs.declared.notes.MasterNote.{MasterNote}
use Rattle.sig_types.specs.declared.notes.Way.{Way}
use Rattle.sig_types.specs.declared.notes.Way.TheVariants.{Poll, Load, Prio}
use Rattle.scenario_data.specs.Content.{ScenarioContent, CabinetContent}
use Rattle.scenario_data.specs.Inputs.{inputs_of}
use Rattle.sig_types.specs.Items.{Item, InputTold, Came, Ticked}
use Rattle.sig_types.specs.Passes.{pass_of}
use Rattle.sig_types.specs.Replies.{Reply, replied_on}
use Rattle.link_sim.specs.Reaching.{reaching, returning, deliveries}
use Rattle.master_poll.specs.Sends.{Arrived, Frames, sending_of, notes_of}

-- what arrives at the master on a stream in the newest of these rounds
abbrev pub arriving_on : ScenarioContent → ℕ → Way → List (List Reply) → List (List ℕ)
arriving_on s cab way answered = returning s cab way (map (replied_on (pass_of way)) answered)

-- what has arrived from the cabinet at the master's turn in the round after these rounds
abbrev pub arrived_of : ScenarioContent → ℕ → List (List Reply) → Arrived
arrived_of s cab answered = record { polls = arriving_on s cab Poll answered; loads = arriving_on s cab Load answered }

-- what has arrived at the master's turn in each round so far and in the next round; before the first round nothing
-- has arrived
abbrev pub arrivals : ScenarioContent → ℕ → List (List Reply) → List Arrived
arrivals s cab [] = record { polls = []; loads = [] } ∷ []
arrivals s cab (replies ∷ before) = arrived_of s cab (replies ∷ before) ∷ arrivals s cab before

-- what the master sends to the cabinet in each round, by what has arrived at each turn
abbrev pub sendings : ScenarioContent → ℕ → CabinetContent → List Arrived → List Frames
sendings s cab c [] = []
sendings s cab c (arrived ∷ before) = sending_of s cab c (arrived ∷ before) ∷ sendings s cab c before

-- what the master sends on the poll stream in each round so far and in the next round
abbrev pub polls_sent : ScenarioContent → ℕ → CabinetContent → List (List Reply) → List (List (List ℕ))
polls_sent s cab c answered = map (λ f. option_to_list f.poll) (sendings s cab c (arrivals s cab answered))

-- what the master sends on the load stream in each round so far and in the next round
abbrev pub loads_sent : ScenarioContent → ℕ → CabinetContent → List (List Reply) → List (List (List ℕ))
loads_sent s cab c answered = map (λ f. option_to_list f.load) (sendings s cab c (arrivals s cab answered))

-- the octets of the messages that reach the cabinet on a stream in the next round. For priority requests only the
-- number of rounds matters
abbrev pub delivered_on : ScenarioContent → ℕ → CabinetContent → List (List Reply) → Way → List (List ℕ)
delivered_on s cab c answered Poll = reaching s cab Poll (polls_sent s cab c answered)
delivered_on s cab c answered Load = reaching s cab Load (loads_sent s cab c answered)
delivered_on s cab c answered Prio = reaching s cab Prio (polls_sent s cab c answered)

-- the octets of the messages that this pass brings in the next round: pass 1 brings polls, pass 2 loads, pass 3
-- priority requests. The other passes bring none
abbrev pub delivered : ScenarioContent → ℕ → CabinetContent → List (List Reply) → ℕ → List (List ℕ)
delivered s cab c answered pass =
    if pass == 1 then delivered_on s cab c answered Poll
    else if pass == 2 then delivered_on s cab c answered Load
    else if pass == 3 then delivered_on s cab c answered Prio
    else []

-- what the master notes about the cabinet in the next round
abbrev pub noted : ScenarioContent → ℕ → CabinetContent → List (List Reply) → List MasterNote
noted s cab c answered = notes_of s cab c (arrivals s cab answered)

-- the streams of the next round: inputs, three streams of messages, and ticks
abbrev pub streams_of : ScenarioContent → ℕ → CabinetContent → List (List Reply) → List (List Item)
streams_of s cab c answered =
    map InputTold (inputs_of (length answered + 1) cab s.inputs)
    ∷ map Came (delivered s cab c answered 1)
    ∷ map Came (delivered s cab c answered 2)
    ∷ map Came (delivered s cab c answered 3)
    ∷ replicate s.ticks Ticked
    ∷ []

-- the streams of the next round are what the link delivers of the messages that the master sends
abbrev pub AreDelivered : ScenarioContent → ℕ → CabinetContent → List (List Reply) → Type 0
AreDelivered s cab c answered =
    deliveries s cab (polls_sent s cab c answered) (loads_sent s cab c answered) ≡ streams_of s cab c answered
