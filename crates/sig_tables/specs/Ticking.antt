-- The moment that a tick gives: the moves of the rings, the colours, the pedestrian signals, and the frame.
use Rattle.std.specs.Prelude.{ℕ, ◌==◌, ◌&&◌, not, if◌then◌else◌, List, [], ◌∷◌, map}
use Rattle.sig_types.specs.declared.frame.Colour.{Colour}
use Rattle.sig_types.specs.declared.frame.Colour.TheVariants.{Green, Yellow, Clear, Red}
use Rattle.sig_types.specs.declared.frame.Ped.{Ped}
use Rattle.sig_types.specs.declared.frame.Ped.TheVariants.{Walk}
use Rattle.sig_types.specs.declared.frame.Mode.{Mode}
use Rattle.sig_types.specs.declared.frame.Frame.{Frame}
use Rattle.sig_types.specs.Phases.{all_phases, is_in, first, only}
use Rattle.sig_types.specs.Colour.{same_colour, colour_in, colour_of, signal_of}
use Rattle.sig_tables.specs.declared.tables.Tables.{Tables}
use Rattle.sig_tables.specs.Tables.{ring_of, is_enabled}
use Rattle.sig_tables.specs.Past.{Moment, Past}
use Rattle.sig_tables.specs.Looking.{last_frame, runs_on}
use Rattle.sig_tables.specs.Lesser.{signal_runs_within}
use Rattle.sig_tables.specs.Modes.{bound, sequence_in}
use Rattle.sig_tables.specs.TickInputs.{TickInputs, tick_inputs_of}
use Rattle.sig_tables.specs.Goals.{lesser_in}
use Rattle.sig_tables.specs.Choosing.{mode_reached}
use Rattle.sig_tables.specs.TickState.{RingTurn, Rest, StartUp, Rings, Goal, TickState, startup_phases, tick_state_of}
use Rattle.sig_tables.specs.Walking.{Crossing, walk_begins, is_local_zero}
use Rattle.sig_tables.specs.View.{View, ended_of}
use Rattle.sig_tables.specs.Moves.{Moves, ring_moves, goal_moves}

-- the phases that end their Green and those that begin it, by what the rings do
abbrev pub moves_of : RingTurn → View → Moves
moves_of Rest v = record { ends = []; begins = [] }
moves_of StartUp v = record { ends = []; begins = startup_phases v.tables }
moves_of Rings v = ring_moves v
moves_of (Goal goal) v = goal_moves v goal

-- the colour of phase p after the moves, given its last colour
abbrev pub colour_after : Moves → ℕ → Tables → List Moment → Colour → Colour
colour_after moves p now past Green = if is_in moves.ends p then Yellow else Green
colour_after moves p now past Yellow = runs_on p now past Yellow
colour_after moves p now past Clear = runs_on p now past Clear
colour_after moves p now past Red = if is_in moves.begins p then Green else Red

-- the values that decide which walks begin in a frame of this mode
abbrev pub crossing_of : TickState → Past → TickInputs → Mode → Crossing
crossing_of tick_state past tick_inputs mode = record {
  ring_turn = tick_state.ring_turn;
  tables = past.tables;
  is_zero = is_local_zero mode tick_state.counter (last_frame past.moments);
  pedestrian = tick_inputs.calls.pedestrian;
  opposed = tick_inputs.opposed;
}

-- the pedestrian signal of phase p in a frame of this mode with these colours: Walk if a walk begins, otherwise the
-- signal that follows the last one
abbrev pub signal_after : TickState → Past → Crossing → List Colour → Mode → ℕ → Ped
signal_after tick_state past crossing veh mode p =
    if walk_begins crossing mode p (colour_of (last_frame past.moments) p) (colour_in veh p) (signal_of (last_frame past.moments) p)
    then Walk
    else signal_runs_within (lesser_in past.tables tick_state.mode p) p past.tables past.moments (signal_of (last_frame past.moments) p)

-- the phase of ring r that is on (Green, Yellow or Clear), or 0
abbrev pub on_of : Tables → List Colour → ℕ → ℕ
on_of t veh r = only (first (λ p. is_enabled t p && ring_of t p == r && not (same_colour (colour_in veh p) Red)) all_phases)

-- the frame of this mode with these colours, given the values that decide the walks
abbrev pub frame_crossing : TickState → Past → Crossing → List Colour → Mode → Frame
frame_crossing tick_state past crossing veh mode = record {
  veh = veh;
  ped = map (signal_after tick_state past crossing veh mode) all_phases;
  on = on_of past.tables veh 1 ∷ on_of past.tables veh 2 ∷ [];
  mode = mode;
  counter = tick_state.counter;
  target = tick_state.target;
  version = past.version;
}

-- the frame of this mode with these colours
abbrev pub frame_of : TickState → Past → TickInputs → List Colour → Mode → Frame
frame_of tick_state past tick_inputs veh mode = frame_crossing tick_state past (crossing_of tick_state past tick_inputs mode) veh mode

-- the frame with these colours, which also decide its mode
abbrev pub frame_with : TickState → Past → TickInputs → List Colour → Frame
frame_with tick_state past tick_inputs veh = frame_of tick_state past tick_inputs veh (mode_reached tick_state.mode past.tables veh)

-- the colours of all phases after these moves
abbrev pub colours_of : Past → Moves → List Colour
colours_of past moves = map (λ p. colour_after moves p past.tables past.moments (colour_of (last_frame past.moments) p)) all_phases

-- the view of the rings at a tick
abbrev pub view_of : TickState → Past → TickInputs → View
view_of tick_state past tick_inputs = record {
  mode = tick_state.mode;
  counter = tick_state.counter;
  active = tick_state.active;
  tables = past.tables;
  sequence = sequence_in past.tables tick_state.mode;
  frame = last_frame past.moments;
  past = past.moments;
  demand = tick_inputs.demand;
  quiet = tick_inputs.quiet;
  opposed = tick_inputs.opposed;
  ended = ended_of past.tables past.moments;
}

-- the moment of a tick, given its state, its inputs and the moves
abbrev pub moment_with : TickState → Past → TickInputs → Moves → Moment
moment_with tick_state past tick_inputs moves = record {
  number = tick_state.number;
  clock = tick_state.clock;
  command = tick_state.command;
  is_commanded = tick_state.is_commanded;
  preempts = tick_state.preempts;
  active = tick_state.active;
  tables = past.tables;
  vehicle = tick_inputs.calls.vehicle;
  pedestrian = tick_inputs.calls.pedestrian;
  detectors = tick_inputs.calls.detectors;
  quiet = tick_inputs.quiet;
  opposed = tick_inputs.opposed;
  frame = frame_with tick_state past tick_inputs (colours_of past moves);
}

-- the moment of a tick, given its state and its inputs, which decide the moves
abbrev pub moment_seeing : TickState → Past → TickInputs → Moment
moment_seeing tick_state past tick_inputs = moment_with tick_state past tick_inputs (moves_of tick_state.ring_turn (view_of tick_state past tick_inputs))

-- the moment of a tick, given its state
abbrev pub moment_on : TickState → Past → Moment
moment_on tick_state past = moment_seeing tick_state past (tick_inputs_of (bound tick_state.mode) past)

-- the moment that the next tick gives
abbrev pub next_moment : Past → Moment
next_moment past = moment_on (tick_state_of past) past
