-- The three lines of a cabinet in one direction, and the late copies that they store. Lists of rounds have the newest
-- first.
use Rattle.std.specs.Prelude.{ℕ, ◌≡◌, List, [], ◌∷◌, length}
use Rattle.sig_types.specs.declared.notes.Way.{Way}
use Rattle.sig_types.specs.declared.notes.Way.TheVariants.{Poll, Load, Prio}
use Rattle.scenario_data.specs.declared.scenario.Direction.{Direction}
use Rattle.scenario_data.specs.declared.scenario.Fault.{Fault}
use Rattle.link_sim.specs.declared.Line.{Line}
use Rattle.link_sim.specs.declared.lines.Lines.{Lines}
use Rattle.link_sim.specs.Holds.{Holds, line_of}

-- what went over the three streams in each round so far
pub record Passed : Type 0 where
  pub polls : List (List (List ℕ))
  pub loads : List (List (List ℕ))
  pub prios : List (List (List ℕ))

-- nothing was sent so far
abbrev pub nothing_passed : Passed
nothing_passed = record { polls = []; loads = []; prios = [] }

-- what was sent over the three streams, with one more round
abbrev pub with_round : List (List ℕ) → List (List ℕ) → List (List ℕ) → Passed → Passed
with_round polls loads prios past = record { polls = polls ∷ past.polls; loads = loads ∷ past.loads; prios = prios ∷ past.prios }

-- the line of a cabinet for this stream and direction
abbrev pub line_at : ℕ → Way → Direction → Line
line_at cab way direction = record { cab = cab; way = way; direction = direction }

-- these are the lines of a cabinet in one direction, and each stores the late copies of its stream
pub record AreLines (lines : Lines) (faults : List Fault) (cab : ℕ) (direction : Direction) (past : Passed) : Type 0 where
  pub poll_line : line_of lines.polls ≡ line_at cab Poll direction
  pub load_line : line_of lines.loads ≡ line_at cab Load direction
  pub prio_line : line_of lines.prios ≡ line_at cab Prio direction
  pub polls : Holds lines.polls faults past.polls
  pub loads : Holds lines.loads faults past.loads
  pub prios : Holds lines.prios faults past.prios
  pub load_rounds : length past.loads ≡ length past.polls
  pub prio_rounds : length past.prios ≡ length past.polls
