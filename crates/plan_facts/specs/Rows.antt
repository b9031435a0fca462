-- Worked histories, for which the prover computes the bounds.
use Rattle.std.specs.Prelude.{ℕ, zero, suc, Bool, true, false, if◌then◌else◌, ◌&&◌, List, [], ◌∷◌, length}
use Rattle.sig_tables.specs.Past.{Event, Tick, Moment}
use Rattle.sig_tables.specs.Looking.{last_frame}
use Rattle.sig_tables.specs.Decide.{past_at}
use Rattle.sig_tables.specs.Standard.{std8}
use Rattle.sig_tables.specs.Counting.{needed}
use Rattle.sig_tables.specs.Counters.{correction_of}
use Rattle.plan_facts.specs.Disturbances.{Drift, quiet_for}
use Rattle.plan_facts.specs.Greatest.{pickup_bound}
use Rattle.plan_facts.specs.Bounds.{longest_cycle, zero_bound, offset_bound}
use Rattle.plan_facts.specs.Meets.{first_zero, zero_target, green_at_zero, zero_in_time, offset_in_time}

-- n ticks after these events
abbrev pub ticks : ℕ → List Event → List Event
ticks zero events = events
ticks (suc n) events = Tick ∷ ticks n events

-- the moments of a cabinet with the standard tables and the standard pattern, opened with this clock, after these
-- events
abbrev pub standard_run : ℕ → List Event → List Moment
standard_run clock events = (past_at (record { tables = std8; command = 1; clock = clock; events = events })).moments

-- the condition holds at every moment
abbrev pub throughout : (List Moment → Bool) → List Moment → Bool
throughout test [] = true
throughout test (m ∷ past) = if test (m ∷ past) then throughout test past else false

-- the ticks since the last disturbance, the number of moments up to the first local zero (with the moment before any
-- tick), its target, the number of cycles that the correction needs, and the bounds
abbrev pub bounds_of : Drift → List Moment → List ℕ
bounds_of d past =
    quiet_for d past ∷ length (first_zero d past) ∷ zero_target d past ∷ needed (correction_of std8 1) (zero_target d past)
    ∷ pickup_bound past ∷ longest_cycle std8 1 ∷ zero_bound past std8 1 ∷ offset_bound d past std8 1 (zero_target d past) ∷ []

-- the counter and the target of the last moment
abbrev pub counter_and_target : List Moment → List ℕ
counter_and_target past = (last_frame past).counter ∷ (last_frame past).target ∷ []

-- all conditions on the last moment, as a test
abbrev pub meets_now : Drift → List Moment → Bool
meets_now d past = green_at_zero past && zero_in_time d past && offset_in_time d past
