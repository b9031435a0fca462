-- What the link represents: what was sent and replied so far. Lists of rounds have the newest first.
use Rattle.std.specs.Prelude.{ℕ, ◌≡◌, ◌+◌, ◌<◌, List, [], ◌∷◌, length, get_or, Option, Some, None}
use Rattle.arrayvec.specs.ArrayVec.{ArrayVec}
use Rattle.sig_types.specs.declared.notes.Way.TheVariants.{Poll, Load, Prio}
use Rattle.scenario_data.specs.declared.scenario.Direction.{Direction}
use Rattle.scenario_data.specs.declared.scenario.Direction.TheVariants.{Down, Up}
use Rattle.scenario_data.specs.declared.scenario.Fault.{Fault}
use Rattle.scenario_data.specs.Content.{ScenarioContent}
use Rattle.sig_types.specs.declared.streams.Sending.{Sending}
use Rattle.sig_types.specs.declared.streams.Streams.{Streams}
use Rattle.sig_types.specs.declared.streams.Answers.{Answers}
use Rattle.sig_types.specs.Items.{items_of, texts_of}
use Rattle.link_sim.specs.declared.lines.Lines.{Lines}
use Rattle.link_sim.specs.declared.lists.Lists.{Lists}
use Rattle.link_sim.specs.Kept.{faults_in}
use Rattle.link_sim.specs.Lists.{AreOf}
use Rattle.link_sim.specs.Reaching.{requested, deliveries, returning}
use Rattle.link_sim.specs.StreamFrames.{Passed, AreLines, nothing_passed, with_round}

-- the octets that are sent on a stream, of one message or none
abbrev pub sent_text : Option (ArrayVec ℕ) → List (List ℕ)
sent_text None = []
sent_text (Some octets) = octets.items ∷ []

-- what was sent to a cabinet on its three streams; the master sent `polls` and `loads`
abbrev pub sent_past : ScenarioContent → ℕ → List (List (List ℕ)) → List (List (List ℕ)) → Passed
sent_past s cab polls loads = record { polls = polls; loads = loads; prios = requested s cab (length polls) }

-- the lines store the same late copies as before the round
abbrev pub Stays : Lines → Lines → List Fault → ℕ → Direction → ℕ → Type 0
Stays old new faults cab direction round =
    (past : Passed) → AreLines old faults cab direction past → round ≡ length past.polls + 1 → AreLines new faults cab direction past

-- a round to a cabinet, in which the master sends this: these streams reach the cabinet, and the lines store the late
-- copies
pub record Delivers (old new : Lines) (lists : Lists) (s : ScenarioContent) (round cab : ℕ) (sending : Sending) (streams : Streams) : Type 0 where
  pub reaches : (polls loads : List (List (List ℕ))) → AreOf lists s → AreLines old (faults_in lists.faults) cab Down (sent_past s cab polls loads)
      → round ≡ length polls + 1 → items_of streams ≡ deliveries s cab (sent_text sending.poll ∷ polls) (sent_text sending.load ∷ loads)
  pub holds : (polls loads : List (List (List ℕ))) → AreOf lists s → AreLines old (faults_in lists.faults) cab Down (sent_past s cab polls loads)
      → round ≡ length polls + 1
      → AreLines new (faults_in lists.faults) cab Down (sent_past s cab (sent_text sending.poll ∷ polls) (sent_text sending.load ∷ loads))

-- what was replied, with the replies of one more round
abbrev pub answered : Answers → Passed → Passed
answered answers past = with_round (texts_of answers.polls.items) (texts_of answers.loads.items) (texts_of answers.prios.items) past

-- what arrives from a cabinet: on each stream what the line carries of the replies of this round and of all rounds
-- before
pub record ArriveFrom (s : ScenarioContent) (cab : ℕ) (replied : Passed) (answers arrived : Answers) : Type 0 where
  -- replies to polls and commands
  pub polls : texts_of arrived.polls.items ≡ returning s cab Poll (texts_of answers.polls.items ∷ replied.polls)
  -- replies to parts of downloads
  pub loads : texts_of arrived.loads.items ≡ returning s cab Load (texts_of answers.loads.items ∷ replied.loads)
  -- replies to priority requests
  pub prios : texts_of arrived.prios.items ≡ returning s cab Prio (texts_of answers.prios.items ∷ replied.prios)

-- a round from a cabinet: this arrives of its replies, and the lines store the late copies
pub record Returns (old new : Lines) (lists : Lists) (s : ScenarioContent) (round cab : ℕ) (answers arrived : Answers) : Type 0 where
  pub arrive : (past : Passed) → AreOf lists s → AreLines old (faults_in lists.faults) cab Up past → round ≡ length past.polls + 1
      → ArriveFrom s cab past answers arrived
  pub holds : (past : Passed) → AreOf lists s → AreLines old (faults_in lists.faults) cab Up past → round ≡ length past.polls + 1
      → AreLines new (faults_in lists.faults) cab Up (answered answers past)

-- these are the lines of this many cabinets in one direction, and nothing was sent over them
abbrev pub AreUnused : List Lines → ℕ → Direction → Type 0
AreUnused all cabinets direction =
    (k : ℕ) → (d : Lines) → (faults : List Fault) → k < cabinets → AreLines (get_or all k d) faults (k + 1) direction nothing_passed

-- this holds for each cabinet: these streams reach it, and its lines store the late copies
abbrev pub DeliversEach : List Lines → List Lines → Lists → ScenarioContent → ℕ → List Sending → List Streams → Type 0
DeliversEach old new lists s round sendings all =
    (k : ℕ) → (d : Lines) → (m : Sending) → (e : Streams) → k < length old
    → Delivers (get_or old k d) (get_or new k d) lists s round (k + 1) (get_or sendings k m) (get_or all k e)

-- this holds for each cabinet: this arrives of its replies, and its lines store the late copies
abbrev pub ReturnsEach : List Lines → List Lines → Lists → ℕ → List Answers → List Answers → Type 0
ReturnsEach old new lists round answers all =
    (s : ScenarioContent) (k : ℕ) → (d : Lines) → (m e : Answers) → k < length old
    → Returns (get_or old k d) (get_or new k d) lists s round (k + 1) (get_or answers k m) (get_or all k e)

-- the lines of each cabinet store the same late copies as before the round
abbrev pub EachStays : List Lines → List Lines → List Fault → Direction → ℕ → Type 0
EachStays old new faults direction round =
    (k : ℕ) → (d : Lines) → k < length old → Stays (get_or old k d) (get_or new k d) faults (k + 1) direction round
