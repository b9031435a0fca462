-- The inputs of a tick: the locked calls, the demand, and which Green phases are quiet (not active) or opposed (a
-- conflicting phase has demand).
use Rattle.std.specs.Prelude.{ℕ, List, Option}
use Rattle.sig_tables.specs.Past.{Past, Moment}
use Rattle.sig_tables.specs.Looking.{last_frame, last_moment}
use Rattle.sig_tables.specs.Calls.{vehicle_calls, pedestrian_calls, detectors_on, opposed_of}
use Rattle.sig_tables.specs.SplitCalls.{demand_in, quiet_in}

-- the phases with locked vehicle calls and with locked pedestrian calls, and those whose detectors are on
pub record CallsSeen : Type 0 where
  pub vehicle : List ℕ
  pub pedestrian : List ℕ
  pub detectors : List ℕ

-- the inputs of a tick: the calls, the phases with demand, and the phases that were Green before the tick and are quiet
-- or opposed at it
pub record TickInputs : Type 0 where
  pub calls : CallsSeen
  pub demand : List ℕ
  pub quiet : List ℕ
  pub opposed : List ℕ

-- the calls and detectors of a tick, given the last moment and the inputs since then
abbrev pub calls_after : Past → Moment → CallsSeen
calls_after past m = record {
  vehicle = vehicle_calls past.heard m;
  pedestrian = pedestrian_calls past.heard m;
  detectors = detectors_on past.heard m;
}

-- the inputs of a tick, given the pattern in effect, the calls and the demand
abbrev pub tick_inputs_wanting : Option ℕ → Past → CallsSeen → List ℕ → TickInputs
tick_inputs_wanting pattern past calls demand = record {
  calls = calls;
  demand = demand;
  quiet = quiet_in pattern past.tables (last_frame past.moments) past.heard calls.detectors;
  opposed = opposed_of past.tables (last_frame past.moments) demand;
}

-- the inputs of a tick, given the pattern in effect and the calls, which decide the demand
abbrev pub tick_inputs_calling : Option ℕ → Past → CallsSeen → TickInputs
tick_inputs_calling pattern past calls =
    tick_inputs_wanting pattern past calls
    (demand_in pattern past.tables (last_frame past.moments) calls.vehicle calls.pedestrian calls.detectors)

-- the inputs of the next tick, given the pattern in effect
abbrev pub tick_inputs_of : Option ℕ → Past → TickInputs
tick_inputs_of pattern past = tick_inputs_calling pattern past (calls_after past (last_moment past.tables past.moments))
