-- What is known of each tick of a cabinet whose clock has a given drift, and what each tick hands on to the next. So
-- the history keeps what coordination promises. A clock that shows an unexpected time counts as a clock that was set.
use Rattle.std.specs.Prelude.{ℕ, Bool, true, false, ◌≡◌, ◌⊎◌, ◌≤◌, ◌<◌, ◌+◌, ◌==◌, ◌&&◌, List, [], ◌∷◌}
use Rattle.sig_types.specs.declared.frame.Mode.{Mode}
use Rattle.sig_types.specs.declared.frame.Mode.TheVariants.{Seek, Coord}
use Rattle.sig_types.specs.Phases.{is_in}
use Rattle.sig_tables.specs.declared.tables.Tables.{Tables}
use Rattle.sig_tables.specs.Tables.{is_enabled}
use Rattle.sig_tables.specs.Modes.{same_mode}
use Rattle.sig_tables.specs.Slots.{is_defined, cycle_time}
use Rattle.sig_tables.specs.Splits.{coordinated_phases}
use Rattle.sig_tables.specs.Choosing.{are_coordinated_green, mode_reached}
use Rattle.sig_tables.specs.Counting.{HasRoom}
use Rattle.sig_tables.specs.Counters.{correction_of}
use Rattle.sig_tables.specs.Past.{Moment}
use Rattle.sig_tables.specs.Looking.{last_frame}
use Rattle.coordination_laws.specs.Search.{AnyMoment}
use Rattle.tick_laws.specs.Zero.{HoldsPair, PlanServes, TimesServe, InTime, ZeroHolds}
use Rattle.coordination_laws.specs.Drifting.{moved}
use Rattle.plan_facts.specs.Disturbances.{Drift, drifts, is_disturbed, quiet_for}
use Rattle.plan_facts.specs.Greatest.{pickup_bound}
use Rattle.plan_facts.specs.Bounds.{zero_bound}
use Rattle.plan_facts.specs.Meets.{has_zero}
use Rattle.coordination_laws.specs.Versions.{IsVersion, greatest_at, HasYellow}
use Rattle.coordination_laws.specs.Lasting.{SeekTick, Searches, StepTick}
use Rattle.coordination_laws.specs.Cycles.{CountsOn, InCycle, HasTime, step_at, OnPath}

-- the mode is Coord
abbrev pub is_coord : Mode → Bool
is_coord (Coord n) = true
is_coord mode = false

-- what is known of a tick that seeks pattern n or picks it up: moment m after the moments l ∷ past
pub record SeekFacts (d : Drift) (n : ℕ) (m l : Moment) (past : List Moment) : Type 0 where
  pub command : m.command ≡ n
  pub apart : (l.frame.version == m.frame.version && same_mode l.frame.mode (Coord n)) ≡ false
  pub before : is_disturbed d (m ∷ l ∷ past) ≡ false → (m.tables ≡ l.tables) × (same_mode l.frame.mode (Coord n) ≡ false)
  pub reached : m.frame.mode ≡ mode_reached (Seek n) m.tables m.frame.veh
  pub counter : m.frame.counter ≡ 0
  pub target : m.frame.target < cycle_time m.tables n
  pub room : HasRoom (correction_of m.tables n)
  pub time : drifts d ≡ true → HasTime d (correction_of m.tables n)
  pub yellow : HasYellow m.tables
  pub enabled : (q : ℕ) → is_in (coordinated_phases m.tables n) q ≡ true → is_enabled m.tables q ≡ true
  pub any : AnyMoment (greatest_at (m ∷ l ∷ past)) m.tables (m ∷ l ∷ past)
  pub alone : are_coordinated_green m.tables n m.frame.veh ≡ true → ZeroHolds m.tables n m
  pub tick : (quiet_for d (m ∷ l ∷ past) ≤ 1) ⊎ ((l.frame.mode ≡ Seek n) × SeekTick m.tables n m l past)

-- what is known of a tick in Coord of pattern n that follows one in Coord of it
pub record StepFacts (d : Drift) (n : ℕ) (m l : Moment) (past : List Moment) : Type 0 where
  pub command : m.command ≡ n
  pub number : m.number ≡ l.number + 1
  pub tables : m.tables ≡ l.tables
  pub counts : CountsOn m.tables n m l past
  pub tick : StepTick m.tables n m l past
  pub later : is_disturbed d (m ∷ l ∷ past) ≡ false → m.frame.target ≡ moved (cycle_time m.tables n) (step_at d m.number) l.frame.target
  pub target : m.frame.target < cycle_time m.tables n
  pub room : HasRoom (correction_of m.tables n)
  pub time : drifts d ≡ true → HasTime d (correction_of m.tables n)
  pub pair : HoldsPair m.tables n
  pub plan : PlanServes m.tables n
  pub times : TimesServe m.tables n

-- the kinds of a tick: it seeks or picks up the commanded pattern, it stays in Coord of it, or it does neither. In the
-- last case the commanded pattern isn't defined, or the tick is a disturbance
pub data Tells (d : Drift) (m l : Moment) (past : List Moment) : Type 0 where
  Elsewhere : (mode : is_coord m.frame.mode ≡ false) → (idle : (is_defined m.tables m.command ≡ false) ⊎ (is_disturbed d (m ∷ l ∷ past) ≡ true))
      → (free : (n : ℕ) → m.frame.mode ≡ Seek n → ⊥) → Tells d m l past
  Seeks : (facts : SeekFacts d m.command m l past) → Tells d m l past
  Steps : (facts : StepFacts d m.command m l past) → Tells d m l past

-- each tick is of one of these kinds; the moment before any tick is neither in Seek nor in Coord
abbrev pub TellsEach : Drift → List Moment → Type 0
TellsEach d [] = ⊥
TellsEach d (m ∷ []) = (is_coord m.frame.mode ≡ false) × ((n : ℕ) → m.frame.mode ≡ Seek n → ⊥)
TellsEach d (m ∷ l ∷ past) = Tells d m l past × TellsEach d (l ∷ past)

-- what each tick hands on while the cabinet seeks a pattern
pub record Seeking (d : Drift) (t : Tables) (n : ℕ) (past : List Moment) : Type 0 where
  pub start : List Moment
  pub ticks : ℕ
  pub searches : Searches t n start ticks past
  pub quiet : quiet_for d past ≤ ticks + 1
  pub version : IsVersion t start
  pub yellow : HasYellow t
  pub any : AnyMoment (greatest_at start) t start
  pub enabled : (q : ℕ) → is_in (coordinated_phases t n) q ≡ true → is_enabled t q ≡ true
  pub none : has_zero d past ≡ false
  pub soon : quiet_for d past < pickup_bound past

-- what each tick hands on while the cabinet is coordinated in a pattern
pub record InStep (d : Drift) (t : Tables) (n : ℕ) (past : List Moment) : Type 0 where
  pub room : HasRoom (correction_of t n)
  pub cycle : InCycle d t n past
  pub time : InTime t n (last_frame past).counter past
  pub path : has_zero d past ≡ true → OnPath d t n (zero_bound past t n) past

-- what each tick hands on, by the mode of the last moment
pub record Carried (d : Drift) (m : Moment) (past : List Moment) : Type 0 where
  pub seeking : (n : ℕ) → m.frame.mode ≡ Seek n → Seeking d m.tables n (m ∷ past)
  pub in_step : (n : ℕ) → m.frame.mode ≡ Coord n → InStep d m.tables n (m ∷ past)
