-- What a tick sees, part by part. The contracts of a controller's parts use these names.
use Rattle.std.specs.Prelude.{List, ℕ, Option}
use Rattle.sig_types.specs.declared.frame.Frame.{Frame}
use Rattle.sig_types.specs.declared.frame.Mode.{Mode}
use Rattle.sig_tables.specs.Past.{Past, Moment}
use Rattle.sig_tables.specs.Looking.{last_frame, last_moment}
use Rattle.sig_tables.specs.Modes.{bound}
use Rattle.sig_tables.specs.Calls.{vehicle_calls, pedestrian_calls, detectors_on, opposed_of}
use Rattle.sig_tables.specs.SplitCalls.{demand_in, quiet_in}
use Rattle.sig_tables.specs.TickInputs.{TickInputs, tick_inputs_of}
use Rattle.sig_tables.specs.TickState.{RingTurn, tick_state_of}
use Rattle.sig_tables.specs.View.{View}
use Rattle.sig_tables.specs.Moves.{Moves}
use Rattle.sig_tables.specs.Ticking.{view_of, moves_of}

-- the last frame
abbrev pub frame_seen : Past → Frame
frame_seen past = last_frame past.moments

-- the moment of the last frame
abbrev pub moment_seen : Past → Moment
moment_seen past = last_moment past.tables past.moments

-- the phases with a locked vehicle call
abbrev pub vehicle_seen : Past → List ℕ
vehicle_seen past = vehicle_calls past.heard (moment_seen past)

-- the phases with a locked pedestrian call
abbrev pub pedestrian_seen : Past → List ℕ
pedestrian_seen past = pedestrian_calls past.heard (moment_seen past)

-- the phases whose detector is on
abbrev pub detectors_seen : Past → List ℕ
detectors_seen past = detectors_on past.heard (moment_seen past)

-- the mode of the tick before its colours are known
abbrev pub mode_seen : Past → Mode
mode_seen past = (tick_state_of past).mode

-- the phases with demand, if this pattern is in effect
abbrev pub demand_with : Option ℕ → Past → List ℕ
demand_with pattern past =
    demand_in pattern past.tables (frame_seen past) (vehicle_seen past) (pedestrian_seen past) (detectors_seen past)

-- the Green phases that are not active, if this pattern is in effect
abbrev pub quiet_with : Option ℕ → Past → List ℕ
quiet_with pattern past = quiet_in pattern past.tables (frame_seen past) past.heard (detectors_seen past)

-- the phases with demand
abbrev pub demand_seen : Past → List ℕ
demand_seen past = demand_with (bound (mode_seen past)) past

-- the Green phases that are not active
abbrev pub quiet_seen : Past → List ℕ
quiet_seen past = quiet_with (bound (mode_seen past)) past

-- the Green phases for which a conflicting phase has demand
abbrev pub opposed_seen : Past → List ℕ
opposed_seen past = opposed_of past.tables (frame_seen past) (demand_seen past)

-- all inputs of the tick
abbrev pub tick_inputs_seen : Past → TickInputs
tick_inputs_seen past = tick_inputs_of (bound (mode_seen past)) past

-- what the rings do at the tick
abbrev pub ring_turn_seen : Past → RingTurn
ring_turn_seen past = (tick_state_of past).ring_turn

-- the view of the rings at the tick
abbrev pub view_seen : Past → View
view_seen past = view_of (tick_state_of past) past (tick_inputs_seen past)

-- the phases that end their Green at the tick, and those that begin it
abbrev pub moves_seen : Past → Moves
moves_seen past = moves_of (ring_turn_seen past) (view_seen past)
