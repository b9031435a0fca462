-- The state of a tick before its calls and colours are computed.
use Rattle.std.specs.Prelude.{ℕ, ◌+◌, Bool, if◌then◌else◌, List, [], ◌∷◌}
use Rattle.sig_types.specs.declared.frame.Mode.{Mode}
use Rattle.sig_types.specs.declared.frame.Mode.TheVariants.{Start, Free, Coord, Flash}
use Rattle.sig_types.specs.Phases.{all_phases, those}
use Rattle.sig_types.specs.Colour.{is_start}
use Rattle.sig_tables.specs.declared.tables.Tables.{Tables}
use Rattle.sig_tables.specs.Tables.{starts_up}
use Rattle.sig_tables.specs.Past.{Past, Moment}
use Rattle.sig_tables.specs.Looking.{last_frame, last_moment}
use Rattle.sig_tables.specs.Command.{command_now, is_commanded}
use Rattle.sig_tables.specs.Clock.{clock_now, target_in}
use Rattle.sig_tables.specs.Preempts.{preempts_on}
use Rattle.sig_tables.specs.Choosing.{mode_sought}
use Rattle.sig_tables.specs.Goals.{goal_in}
use Rattle.sig_tables.specs.Counters.{counter_in}
use Rattle.sig_tables.specs.Priority.{active_in}

-- what the rings do at a tick: nothing, begin the start-up phases, follow the rules of actuated control, or bring the
-- phases of a goal to Green
pub data RingTurn : Type 0 where
  Rest : RingTurn
  StartUp : RingTurn
  Rings : RingTurn
  Goal : (goal : List ℕ) → RingTurn

-- the state of a tick: its number, the clock, the commanded pattern and whether the command is new, the preempt inputs
-- that are on, the mode before the colours are known, what the rings do, the counter and its target, and the active
-- priority request
pub record TickState : Type 0 where
  pub number : ℕ
  pub clock : ℕ
  pub command : ℕ
  pub is_commanded : Bool
  pub preempts : List ℕ
  pub mode : Mode
  pub ring_turn : RingTurn
  pub counter : ℕ
  pub target : ℕ
  pub active : ℕ

-- the phases that are Green right after Start
abbrev pub startup_phases : Tables → List ℕ
startup_phases t = those (starts_up t) all_phases

-- what the rings do in this mode
abbrev pub ring_turn_in : Tables → Mode → RingTurn
ring_turn_in t Start = Rest
ring_turn_in t Flash = Rest
ring_turn_in t Free = Rings
ring_turn_in t (Coord n) = Rings
ring_turn_in t mode = Goal (goal_in t mode)

-- what the rings do after Start: they begin the start-up phases; if there are none, they do what the mode requires
abbrev pub first_ring_turn : List ℕ → RingTurn → RingTurn
first_ring_turn [] ring_turn = ring_turn
first_ring_turn (p ∷ ps) ring_turn = StartUp

-- what the rings do in this mode after a frame in Start
abbrev pub ring_turn_from_start : Tables → Mode → RingTurn
ring_turn_from_start t Start = Rest
ring_turn_from_start t Flash = Rest
ring_turn_from_start t mode = first_ring_turn (startup_phases t) (ring_turn_in t mode)

-- what the rings do at a tick of this mode
abbrev pub ring_turn_of : Tables → List Moment → Mode → RingTurn
ring_turn_of t past mode = if is_start (last_frame past).mode then ring_turn_from_start t mode else ring_turn_in t mode

-- the state of a tick, given its mode
abbrev pub tick_state_with : Past → ℕ → ℕ → ℕ → List ℕ → Mode → TickState
tick_state_with past number clock command preempts mode = record {
  number = number;
  clock = clock;
  command = command;
  is_commanded = is_commanded past.commanded;
  preempts = preempts;
  mode = mode;
  ring_turn = ring_turn_of past.tables past.moments mode;
  counter = counter_in past.tables mode (target_in past.tables mode clock) past.moments;
  target = target_in past.tables mode clock;
  active = active_in past.tables mode number past.asked;
}

-- the state of a tick, whose mode the command and the preempt inputs decide
abbrev pub tick_state_told : Past → ℕ → ℕ → ℕ → List ℕ → TickState
tick_state_told past number clock command preempts =
    tick_state_with past number clock command preempts (mode_sought past.tables past.version command preempts past.moments)

-- the state of the next tick
abbrev pub tick_state_of : Past → TickState
tick_state_of past =
    tick_state_told past
    ((last_moment past.tables past.moments).number + 1)
    (clock_now past)
    (command_now past)
    (preempts_on past.heard (last_moment past.tables past.moments))
