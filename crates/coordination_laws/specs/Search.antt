-- The search for a pattern: how long it may last until both coordinated phases are Green. `ticks` counts the ticks
-- since the last disturbance. The tables of the cabinet bound service, clearance and red revert.
use Rattle.std.specs.Prelude.{ℕ, true, false, ◌≡◌, ◌≢◌, ◌⊎◌, ◌≤◌, ◌+◌, ◌-◌, List}
use Rattle.sig_types.specs.declared.frame.Colour.{Colour}
use Rattle.sig_types.specs.declared.frame.Colour.TheVariants.{Green, Yellow, Clear, Red}
use Rattle.sig_types.specs.declared.frame.Ped.{Ped}
use Rattle.sig_types.specs.declared.frame.Ped.TheVariants.{Walk, Flash, Dont}
use Rattle.sig_types.specs.declared.frame.Mode.TheVariants.{Seek}
use Rattle.sig_types.specs.Phases.{is_in}
use Rattle.sig_types.specs.Colour.{colour_of, signal_of}
use Rattle.sig_tables.specs.declared.tables.Tables.{Tables}
use Rattle.sig_tables.specs.Tables.{ring_of, is_enabled, least_green, yellow_time, red_clear_time, red_revert_time, walk_time, pedestrian_clear_time}
use Rattle.sig_tables.specs.Sides.{are_of_one_side}
use Rattle.sig_tables.specs.Past.{Moment}
use Rattle.sig_tables.specs.Looking.{run, latched, signal_run, signal_latched, signal_runs_on, last_frame}
use Rattle.sig_tables.specs.View.{View, on_phase}
use Rattle.sig_tables.specs.Moves.{goal_moves}
use Rattle.sig_tables.specs.Decide.{colour_after}

-- bounds for the times of one phase over all tables so far: its own times, and service, clearance and red revert of the
-- whole cabinet
pub record Greatest : Type 0 where
  pub walk : ℕ
  pub flash : ℕ
  pub yellow : ℕ
  pub red : ℕ
  pub service : ℕ
  pub clear : ℕ
  pub revert : ℕ

pub record Sums (g : Greatest) : Type 0 where
  pub signals : g.walk + g.flash ≤ g.service
  pub clearance : g.yellow + g.red ≤ g.clear
  pub some : 1 ≤ g.revert

-- the tables keep these bounds for phase p
pub record GreatestKeeps (g : Greatest) (t : Tables) (p : ℕ) : Type 0 where
  pub least : least_green t p ≤ g.service
  pub walk : walk_time t p ≤ g.walk
  pub flash : pedestrian_clear_time t p ≤ g.flash
  pub yellow : yellow_time t p ≤ g.yellow
  pub red : red_clear_time t p ≤ g.red
  pub revert : red_revert_time t p ≤ g.revert
  pub some : 1 ≤ yellow_time t p

-- the conditions on a phase outside the goal, by its colour, `ticks` ticks after the last disturbance
pub record OutGreen (g : Greatest) (t : Tables) (p ticks : ℕ) (past : List Moment) : Type 0 where
  pub ran : ticks + 1 ≤ run p Green past
  pub least : least_green (latched p Green t past) p ≤ g.service
  pub early : ticks ≤ g.service

pub record OutYellow (g : Greatest) (t : Tables) (p ticks : ℕ) (past : List Moment) : Type 0 where
  pub rest : ticks + (yellow_time (latched p Yellow t past) p + 1 - run p Yellow past) + g.red ≤ g.service + 1 + g.clear
  pub within : run p Yellow past ≤ yellow_time (latched p Yellow t past) p

pub record OutClear (g : Greatest) (t : Tables) (p ticks : ℕ) (past : List Moment) : Type 0 where
  pub rest : ticks + (red_clear_time (latched p Clear t past) p + 1 - run p Clear past) ≤ g.service + 1 + g.clear
  pub within : run p Clear past ≤ red_clear_time (latched p Clear t past) p

abbrev pub OutStands : Greatest → Tables → ℕ → ℕ → List Moment → Colour → Type 0
OutStands g t p ticks past Green = OutGreen g t p ticks past
OutStands g t p ticks past Yellow = OutYellow g t p ticks past
OutStands g t p ticks past Clear = OutClear g t p ticks past
OutStands g t p ticks past Red = Unit {0}

-- the conditions on a phase outside the goal, by its pedestrian signal
pub record OutWalk (g : Greatest) (t : Tables) (p ticks : ℕ) (past : List Moment) : Type 0 where
  pub ran : ticks + 1 ≤ signal_run p Walk past
  pub within : signal_run p Walk past ≤ walk_time (signal_latched p Walk t past) p
  pub most : walk_time (signal_latched p Walk t past) p ≤ g.walk

pub record OutFlash (g : Greatest) (t : Tables) (p ticks : ℕ) (past : List Moment) : Type 0 where
  pub ran : ticks + 1 ≤ signal_run p Flash past + g.walk
  pub within : signal_run p Flash past ≤ pedestrian_clear_time (signal_latched p Flash t past) p
  pub most : pedestrian_clear_time (signal_latched p Flash t past) p ≤ g.flash

abbrev pub OutSignal : Greatest → Tables → ℕ → ℕ → List Moment → Ped → Type 0
OutSignal g t p ticks past Walk = OutWalk g t p ticks past
OutSignal g t p ticks past Flash = OutFlash g t p ticks past
OutSignal g t p ticks past Dont = Unit {0}

-- the conditions on a phase of the goal, by its colour
pub record GoalYellow (g : Greatest) (t : Tables) (p ticks : ℕ) (past : List Moment) : Type 0 where
  pub rest : ticks + (yellow_time (latched p Yellow t past) p + 1 - run p Yellow past) + g.red ≤ g.clear
  pub within : run p Yellow past ≤ yellow_time (latched p Yellow t past) p

pub record GoalClear (g : Greatest) (t : Tables) (p ticks : ℕ) (past : List Moment) : Type 0 where
  pub rest : ticks + (red_clear_time (latched p Clear t past) p + 1 - run p Clear past) ≤ g.clear
  pub within : run p Clear past ≤ red_clear_time (latched p Clear t past) p

abbrev pub GoalStands : Greatest → Tables → ℕ → ℕ → List Moment → Colour → Type 0
GoalStands g t p ticks past Green = Unit {0}
GoalStands g t p ticks past Yellow = GoalYellow g t p ticks past
GoalStands g t p ticks past Clear = GoalClear g t p ticks past
GoalStands g t p ticks past Red = red_revert_time t p + ticks + 1 ≤ run p Red past + g.clear + g.revert

-- a tick of the search: what it sees, and what it gives for a phase
pub record Sought (v : View) (n : ℕ) (goal : List ℕ) : Type 0 where
  pub mode : v.mode ≡ Seek n
  pub frame : v.frame ≡ last_frame v.past
  pub placed : (p : ℕ) → is_enabled v.tables p ≡ true → colour_of v.frame p ≢ Red → on_phase v (ring_of v.tables p) ≡ p
  pub named : (r : ℕ) → (r ≡ 1) ⊎ (r ≡ 2) → (on_phase v r ≡ 0) ⊎
      ((is_enabled v.tables (on_phase v r) ≡ true) × (colour_of v.frame (on_phase v r) ≢ Red) × (ring_of v.tables (on_phase v r) ≡ r))
  pub rings : (p : ℕ) → is_enabled v.tables p ≡ true → (ring_of v.tables p ≡ 1) ⊎ (ring_of v.tables p ≡ 2)
  pub enabled : (q : ℕ) → is_in goal q ≡ true → is_enabled v.tables q ≡ true
  pub single : (p q : ℕ) → is_in goal p ≡ true → is_in goal q ≡ true → ring_of v.tables p ≡ ring_of v.tables q → p ≡ q
  pub side : (p q : ℕ) → is_in goal p ≡ true → is_in goal q ≡ true → are_of_one_side v.tables p q ≡ true

pub record Found (v : View) (goal : List ℕ) (p : ℕ) (m : Moment) : Type 0 where
  pub tables : m.tables ≡ v.tables
  pub colour : colour_of m.frame p ≡ colour_after (goal_moves v goal) p v.tables v.past (colour_of (last_frame v.past) p)

-- the conditions on every phase, `ticks` ticks after the last disturbance
pub record InSearch (g : ℕ → Greatest) (t : Tables) (goal : List ℕ) (ticks : ℕ) (past : List Moment) : Type 0 where
  pub outside : (p : ℕ) → is_enabled t p ≡ true → is_in goal p ≡ false → OutStands (g p) t p ticks past (colour_of (last_frame past) p)
  pub signals : (p : ℕ) → is_enabled t p ≡ true → is_in goal p ≡ false → OutSignal (g p) t p ticks past (signal_of (last_frame past) p)
  pub inside : (q : ℕ) → is_in goal q ≡ true → GoalStands (g q) t q ticks past (colour_of (last_frame past) q)

-- the tables keep the bounds for every enabled phase
pub record KeepsEach (g : ℕ → Greatest) (t : Tables) : Type 0 where
  pub sums : (p : ℕ) → Sums (g p)
  pub each : (p : ℕ) → is_enabled t p ≡ true → GreatestKeeps (g p) t p

-- the moment that a tick of the search gives; no walk begins outside the goal
pub record Gives (v : View) (goal : List ℕ) (m : Moment) : Type 0 where
  pub each : (p : ℕ) → is_enabled v.tables p ≡ true → Found v goal p m
  pub signals : (p : ℕ) → is_enabled v.tables p ≡ true → is_in goal p ≡ false
      → signal_of m.frame p ≡ signal_runs_on p v.tables v.past (signal_of (last_frame v.past) p)

-- more ticks have passed than the bounds for service, clearance and red revert allow
pub record IsLate (g : ℕ → Greatest) (ticks : ℕ) : Type 0 where
  pub outside : (p : ℕ) → (g p).service + (g p).clear + 1 ≤ ticks
  pub goal : (p : ℕ) → (g p).clear + (g p).revert ≤ ticks + 1

-- what is true of any moment: each interval under way has begun, has not exceeded its time, and its time keeps the
-- bounds
abbrev pub Runs : Greatest → Tables → ℕ → List Moment → Colour → Type 0
Runs g t p past Green = (1 ≤ run p Green past) × (least_green (latched p Green t past) p ≤ g.service)
Runs g t p past Yellow = (1 ≤ run p Yellow past) × (run p Yellow past ≤ yellow_time (latched p Yellow t past) p)
    × (yellow_time (latched p Yellow t past) p ≤ g.yellow)
Runs g t p past Clear = (1 ≤ run p Clear past) × (run p Clear past ≤ red_clear_time (latched p Clear t past) p)
    × (red_clear_time (latched p Clear t past) p ≤ g.red)
Runs g t p past Red = 1 ≤ run p Red past

abbrev pub SignalRuns : Greatest → Tables → ℕ → List Moment → Ped → Type 0
SignalRuns g t p past Walk = (1 ≤ signal_run p Walk past) × (signal_run p Walk past ≤ walk_time (signal_latched p Walk t past) p)
    × (walk_time (signal_latched p Walk t past) p ≤ g.walk)
SignalRuns g t p past Flash = (1 ≤ signal_run p Flash past)
    × (signal_run p Flash past ≤ pedestrian_clear_time (signal_latched p Flash t past) p)
    × (pedestrian_clear_time (signal_latched p Flash t past) p ≤ g.flash)
SignalRuns g t p past Dont = Unit {0}

pub record AnyMoment (g : ℕ → Greatest) (t : Tables) (past : List Moment) : Type 0 where
  pub colours : (p : ℕ) → is_enabled t p ≡ true → Runs (g p) t p past (colour_of (last_frame past) p)
  pub signals : (p : ℕ) → is_enabled t p ≡ true → SignalRuns (g p) t p past (signal_of (last_frame past) p)
