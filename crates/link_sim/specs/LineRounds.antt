-- A round over the lines of a cabinet: which messages arrive, and which copies the lines store after it. Lists of
-- rounds have the newest first; this round follows them.
use Rattle.std.specs.Prelude.{ℕ, ◌≡◌, ◌+◌, List, ◌∷◌, length}
use Rattle.sig_types.specs.declared.notes.Way.TheVariants.{Poll, Load, Prio}
use Rattle.sig_types.specs.Items.{texts_of}
use Rattle.scenario_data.specs.declared.scenario.Direction.{Direction}
use Rattle.scenario_data.specs.declared.scenario.Fault.{Fault}
use Rattle.link_sim.specs.declared.lines.Lines.{Lines}
use Rattle.link_sim.specs.declared.lines.StreamFrames.{StreamFrames}
use Rattle.link_sim.specs.declared.lists.Arrivals.{Arrivals}
use Rattle.link_sim.specs.declared.stream_line.StreamLine.{StreamLine}
use Rattle.link_sim.specs.Carried.{carried}
use Rattle.link_sim.specs.Holds.{Holds, line_of}
use Rattle.link_sim.specs.StreamFrames.{Passed, AreLines, line_at, with_round}

-- what arrives over one line is what it carries of the messages of this round and of all rounds before
abbrev pub ArrivesOver : StreamLine → List Fault → ℕ → List (List ℕ) → List (List ℕ) → Type 0
ArrivesOver old faults round sent arrived =
    (past : List (List (List ℕ))) → Holds old faults past → round ≡ length past + 1
    → arrived ≡ carried faults (line_of old) (sent ∷ past)

-- one line stores the late copies of this round and of all rounds before
abbrev pub HoldsRound : StreamLine → StreamLine → List Fault → ℕ → List (List ℕ) → Type 0
HoldsRound old new faults round sent =
    (past : List (List (List ℕ))) → Holds old faults past → round ≡ length past + 1 → Holds new faults (sent ∷ past)

-- one line still stores the late copies of the rounds before, so that the round can be repeated
abbrev pub StillHolds : StreamLine → StreamLine → List Fault → ℕ → Type 0
StillHolds old new faults round =
    (past : List (List (List ℕ))) → Holds old faults past → round ≡ length past + 1 → Holds new faults past

-- what was sent on the three streams, with the messages of this round
abbrev pub with_frames : StreamFrames → Passed → Passed
with_frames sent past = with_round (texts_of sent.polls.now) (texts_of sent.loads.now) (texts_of sent.prios.now) past

-- what arrives over the three lines of a cabinet in one direction: what they carry of the messages of this round and
-- of all rounds before
pub record AreCarried (faults : List Fault) (cab : ℕ) (direction : Direction) (past : Passed) (sent : StreamFrames) (arrived : Arrivals) : Type 0 where
  -- polls or their replies
  pub polls : texts_of arrived.polls.items ≡ carried faults (line_at cab Poll direction) (texts_of sent.polls.now ∷ past.polls)
  -- parts of downloads or their replies
  pub loads : texts_of arrived.loads.items ≡ carried faults (line_at cab Load direction) (texts_of sent.loads.now ∷ past.loads)
  -- priority requests or their replies
  pub prios : texts_of arrived.prios.items ≡ carried faults (line_at cab Prio direction) (texts_of sent.prios.now ∷ past.prios)

-- what arrives over the three lines is what they carry, for each cabinet and direction
abbrev pub ArriveOver : Lines → List Fault → ℕ → StreamFrames → Arrivals → Type 0
ArriveOver old faults round sent arrived =
    (cab : ℕ) (direction : Direction) (past : Passed) → AreLines old faults cab direction past → round ≡ length past.polls + 1
    → AreCarried faults cab direction past sent arrived

-- the three lines store the late copies of this round and of all rounds before
abbrev pub HoldRound : Lines → Lines → List Fault → ℕ → StreamFrames → Type 0
HoldRound old new faults round sent =
    (cab : ℕ) (direction : Direction) (past : Passed) → AreLines old faults cab direction past → round ≡ length past.polls + 1
    → AreLines new faults cab direction (with_frames sent past)

-- the three lines still store the late copies of the rounds before, so that the round can be repeated
abbrev pub StillHold : Lines → Lines → List Fault → ℕ → Type 0
StillHold old new faults round =
    (cab : ℕ) (direction : Direction) (past : Passed) → AreLines old faults cab direction past → round ≡ length past.polls + 1
    → AreLines new faults cab direction past
