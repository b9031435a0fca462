-- Ticks coordinated in a pattern, as counters: from a pickup or a disturbance to the next local zero, and from the
-- first local zero until the cabinet is on offset.
use Rattle.std.specs.Prelude.{ℕ, Bool, true, false, ◌≡◌, ◌⊎◌, ◌≤◌, ◌<◌, ◌+◌, ◌*◌, ◌==◌, ◌&&◌, ◌||◌, List, [], ◌∷◌}
use Rattle.sig_types.specs.declared.frame.Mode.TheVariants.{Coord}
use Rattle.sig_tables.specs.declared.tables.Tables.{Tables}
use Rattle.sig_tables.specs.Modes.{same_mode}
use Rattle.sig_tables.specs.Counting.{Correction, tick_later, next_counter, last_counter, most_a_cycle, needed, begins_cycle}
use Rattle.sig_tables.specs.Counters.{correction_of, counters_since}
use Rattle.sig_tables.specs.Clock.{is_each}
use Rattle.sig_tables.specs.Slots.{cycle_time}
use Rattle.sig_tables.specs.Past.{Moment}
use Rattle.sig_tables.specs.Looking.{last_frame}
use Rattle.coordination_laws.specs.Stepping.{KeepsLimits, to_zero}
use Rattle.coordination_laws.specs.Drifting.{Drift as Step, Even, Gains, Loses, drifted, target_drifted}
use Rattle.plan_facts.specs.Disturbances.{Drift, IsSlow, drift_gap, drifts, quiet_for}
use Rattle.plan_facts.specs.Bounds.{longest_cycle, cycles_for_one}
use Rattle.plan_facts.specs.Meets.{first_zero, has_zero, holds_since, can_follow}

-- the counters of the last frames in a row in Coord of pattern n, with the version of the last frame
abbrev pub counters : ℕ → List Moment → List ℕ
counters n past = counters_since n (last_frame past).version past

-- moment m stays in Coord of pattern n after moment l, and its counter is the next one
pub record CountsOn (t : Tables) (n : ℕ) (m l : Moment) (past : List Moment) : Type 0 where
  pub mode : m.frame.mode ≡ Coord n
  pub before : l.frame.mode ≡ Coord n
  pub version : m.frame.version ≡ l.frame.version
  pub counter : m.frame.counter ≡ next_counter (correction_of t n) (counters n (l ∷ past)) m.frame.target

-- moment m, after moment l, is a pickup of pattern n
pub record PicksUp (n : ℕ) (m l : Moment) : Type 0 where
  pub mode : m.frame.mode ≡ Coord n
  pub apart : (l.frame.version == m.frame.version && same_mode l.frame.mode (Coord n)) ≡ false
  pub counter : m.frame.counter ≡ 0

-- in Coord of pattern n: the counter keeps the limits of a cycle. There has been a local zero since the last
-- disturbance, or one will occur within the longest cycle after it
pub record InCycle (d : Drift) (t : Tables) (n : ℕ) (past : List Moment) : Type 0 where
  pub mode : (last_frame past).mode ≡ Coord n
  pub limits : KeepsLimits (correction_of t n) (counters n past)
  pub due : (has_zero d past ≡ true) ⊎ (quiet_for d past + to_zero (correction_of t n) (counters n past) ≤ longest_cycle t n)

-- what the clock does at a tick at which it should gain or lose; if it should do both, it advances by one tick
abbrev pub step_of : Bool → Bool → Step
step_of true true = Even
step_of true false = Gains
step_of false true = Loses
step_of false false = Even

-- what the clock does at the tick with this number
abbrev pub step_at : Drift → ℕ → Step
step_at d number = step_of (is_each d.gain number) (is_each d.lose number)

-- what the clock does at each tick after the one with this number; i counts them from 0
abbrev pub steps_after : Drift → ℕ → ℕ → Step
steps_after d number i = step_at d (number + 1 + i)

-- between two ticks at which the clock gains or loses there is time for two of the longest cycles, and what one cycle
-- adds is shorter than the cycle
pub record HasTime (d : Drift) (k : Correction) : Type 0 where
  pub slow : IsSlow d
  pub add : k.add + 1 < k.cycle
  pub cycles : 2 * (k.cycle + most_a_cycle k) + 1 ≤ drift_gap

-- the counter equals the target; if the clock drifts, they may differ by one tick, modulo the cycle
abbrev pub are_near : Drift → ℕ → ℕ → ℕ → Bool
are_near d cycle counter target =
    counter == target || drifts d && (tick_later cycle counter == target || tick_later cycle target == counter)

-- at the tick with this number a cycle begins with this target. Counter and target become equal within `most` ticks,
-- and stay near each other from then on
pub record ComesNear (d : Drift) (k : Correction) (number : ℕ) (past : List ℕ) (target most : ℕ) : Type 0 where
  pub moment : ℕ
  pub within : moment ≤ most
  pub equal : last_counter (drifted k moment (steps_after d number) target past) ≡ target_drifted k.cycle moment (steps_after d number) target
  pub near : (n : ℕ) → moment ≤ n
      → are_near d k.cycle (last_counter (drifted k n (steps_after d number) target past)) (target_drifted k.cycle n (steps_after d number) target)
      ≡ true

-- the number of the tick that gave the last moment
abbrev pub last_number : List Moment → ℕ
last_number [] = 0
last_number (m ∷ past) = m.number

-- the ticks of the cycles that are needed from a local zero with this target, each as long as the longest cycle
abbrev pub cycles_needed : Drift → Tables → ℕ → ℕ → ℕ
cycles_needed d t n target = cycles_for_one d * needed (correction_of t n) target * longest_cycle t n

-- the state since the first local zero after the last disturbance, which occurred within `most` ticks. The counter has
-- been corrected at each tick, and the target has followed the clock. If the correction can follow the clock, they
-- become equal within the needed cycles and stay near each other
pub record OnPath (d : Drift) (t : Tables) (n most : ℕ) (past : List Moment) : Type 0 where
  pub mode : (last_frame past).mode ≡ Coord n
  pub zero : has_zero d past ≡ true
  pub start : List Moment
  pub first : first_zero d past ≡ start
  pub ticks : ℕ
  pub quiet : quiet_for d past ≡ quiet_for d start + ticks
  pub soon : quiet_for d start ≤ most
  pub begins : begins_cycle (counters n start) ≡ true
  pub below : (last_frame start).target < cycle_time t n
  pub number : last_number past ≡ last_number start + ticks
  pub counted : counters n past
      ≡ drifted (correction_of t n) ticks (steps_after d (last_number start)) (last_frame start).target (counters n start)
  pub target : (last_frame past).target
      ≡ target_drifted (cycle_time t n) ticks (steps_after d (last_number start)) (last_frame start).target
  pub comes : can_follow d t ≡ true
      → ComesNear d (correction_of t n) (last_number start) (counters n start) (last_frame start).target (cycles_needed d t n (last_frame start).target)
  pub held : (follows : can_follow d t ≡ true) → (comes follows).moment ≤ ticks
      → holds_since d (most + cycles_needed d t n (last_frame start).target) past ≡ true
