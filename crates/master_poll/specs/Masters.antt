-- The master's rounds: what it sends to all cabinets and what it notes, and what it represents of what has arrived.
-- Cabinets are numbered from 1; lists of rounds have the newest first.
use Rattle.std.specs.Prelude.{ℕ, ◌≡◌, ◌+◌, ◌-◌, ◌≤◌, List, [], ◌∷◌, ◌++◌, map, drop, length, Option, Some, None}
use Rattle.std.specs.List.{slice_get}
use Rattle.sig_types.specs.declared.notes.MasterNote.{MasterNote}
use Rattle.sig_types.specs.declared.streams.Sending.{Sending}
use Rattle.sig_types.specs.declared.streams.Answers.{Answers}
use Rattle.sig_types.specs.Items.{texts_of}
use Rattle.scenario_data.specs.Content.{ScenarioContent, CabinetContent}
use Rattle.requests.specs.Requests.{octets_in}
use Rattle.master_load.specs.Downloads.{AreLoads}
use Rattle.master_poll.specs.declared.channel.Channel.{Channel}
use Rattle.master_poll.specs.declared.master.Master.{Master}
use Rattle.master_poll.specs.declared.master.Round.{Round}
use Rattle.master_poll.specs.Sends.{Arrived, Frames, sending_of, notes_of, turns}
use Rattle.master_poll.specs.Channels.{ChannelStands}

-- the octets of the messages that are sent to a cabinet
abbrev pub frames_of : Sending → Frames
frames_of sending = record { poll = octets_in sending.poll; load = octets_in sending.load }

-- the octets of the messages that have arrived from a cabinet
abbrev pub arrived_in : Option Answers → Arrived
arrived_in None = record { polls = []; loads = [] }
arrived_in (Some answers) = record { polls = texts_of answers.polls.items; loads = texts_of answers.loads.items }

-- what has arrived from each cabinet, with one more round
abbrev pub with_round : List Answers → (ℕ → List Arrived) → ℕ → List Arrived
with_round now before cab = arrived_in (slice_get now (cab - 1)) ∷ before cab

-- what is sent to these cabinets in order; the first has this number
abbrev pub sendings_from : ScenarioContent → (ℕ → List Arrived) → ℕ → List CabinetContent → List Frames
sendings_from s arrived cab [] = []
sendings_from s arrived cab (c ∷ cabinets) = sending_of s cab c (arrived cab) ∷ sendings_from s arrived (cab + 1) cabinets

-- what is sent to all cabinets in order
abbrev pub sendings_of : ScenarioContent → (ℕ → List Arrived) → List Frames
sendings_of s arrived = sendings_from s arrived 1 s.cabinets

-- what is noted about these cabinets in order; the first has this number
abbrev pub notes_from : ScenarioContent → (ℕ → List Arrived) → ℕ → List CabinetContent → List MasterNote
notes_from s arrived cab [] = []
notes_from s arrived cab (c ∷ cabinets) = notes_of s cab c (arrived cab) ++ notes_from s arrived (cab + 1) cabinets

-- what is noted about all cabinets in order
abbrev pub all_notes_of : ScenarioContent → (ℕ → List Arrived) → List MasterNote
all_notes_of s arrived = notes_from s arrived 1 s.cabinets

-- the channel of the cabinet at this place represents its turns, and there have been this many rounds
pub record ChannelIsAt (p : Channel) (s : ScenarioContent) (place rounds : ℕ) (c : CabinetContent) (arrived : List Arrived) : Type 0 where
  pub stands : ChannelStands p s.master.retries (place + 1) s.loads (turns s (place + 1) c arrived)
  pub count : length arrived ≡ rounds

-- each channel represents what has arrived from its cabinet
abbrev pub EachStands : List Channel → ScenarioContent → ℕ → (ℕ → List Arrived) → Type 0
EachStands channels s rounds arrived =
    (place : ℕ) (p : Channel) (c : CabinetContent) → slice_get channels place ≡ Some p → slice_get s.cabinets place ≡ Some c
    → ChannelIsAt p s place rounds c (arrived (place + 1))

-- the number of cabinets of the master
abbrev pub cabinet_count : Master → ℕ
cabinet_count m = length m.channels.items

-- the number of rounds so far
abbrev pub round_count : Master → ℕ
round_count m = m.rounds

-- the master represents what has arrived from each cabinet
abbrev pub MasterStands : Master → ScenarioContent → (ℕ → List Arrived) → Type 0
MasterStands m s arrived = EachStands m.channels.items s m.rounds arrived

-- the channels represent these rounds, and what the last round sends and notes is as the definitions say
pub record IsMade (channels : List Channel) (r : Round) (s : ScenarioContent) (rounds : ℕ) (arrived : ℕ → List Arrived) : Type 0 where
  pub stands : EachStands channels s rounds arrived
  pub sendings : map frames_of r.sendings.items ≡ sendings_of s arrived
  pub notes : r.notes.items ≡ all_notes_of s arrived

-- what the round sends and notes is as the definitions say, and the master represents one more round
pub record IsRound (m : Master) (r : Round) (s : ScenarioContent) (arrived : ℕ → List Arrived) : Type 0 where
  pub stands : MasterStands m s arrived
  pub sendings : map frames_of r.sendings.items ≡ sendings_of s arrived
  pub notes : r.notes.items ≡ all_notes_of s arrived

-- the same for the cabinets before this place; the others are still to come
pub record MasterGoesOn (channels : List Channel) (sendings : List Sending) (notes : List MasterNote) (s : ScenarioContent) (rounds place : ℕ) (arrived : ℕ → List Arrived) : Type 0 where
  pub stands : EachStands channels s rounds arrived
  pub sent : map frames_of sendings ++ sendings_from s arrived (place + 1) (drop place s.cabinets) ≡ sendings_of s arrived
  pub noted : notes ++ notes_from s arrived (place + 1) (drop place s.cabinets) ≡ all_notes_of s arrived

-- what the master requires of a scenario: at most 64 cabinets, and at most a million loads, each with existing cells
pub record IsRun (s : ScenarioContent) : Type 0 where
  pub cabinets : length s.cabinets ≤ 64
  pub few : length s.loads ≤ 1000000
  pub loads : AreLoads s.loads
