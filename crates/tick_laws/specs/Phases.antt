-- A coordinated cabinet between two local zeros: the condition on each phase at a counter of the cycle, by its colour.
-- Lists of moments have the newest first; c is the counter of the last one.
use Rattle.std.specs.Prelude.{ℕ, true, ◌≡◌, ◌≤◌, ◌⊎◌, ◌+◌, ◌-◌, List}
use Rattle.sig_types.specs.declared.frame.Colour.{Colour}
use Rattle.sig_types.specs.declared.frame.Colour.TheVariants.{Green, Yellow, Clear, Red}
use Rattle.sig_types.specs.declared.frame.Ped.{Ped}
use Rattle.sig_types.specs.declared.frame.Ped.TheVariants.{Walk, Flash, Dont}
use Rattle.sig_types.specs.Phases.{is_in}
use Rattle.sig_types.specs.Colour.{colour_of, signal_of}
use Rattle.sig_tables.specs.declared.tables.Tables.{Tables}
use Rattle.sig_tables.specs.Tables.{clearance, yellow_time, red_clear_time, red_revert_time, walk_time, pedestrian_clear_time}
use Rattle.sig_tables.specs.Slots.{cycle_time, window, force_point, least_service}
use Rattle.sig_tables.specs.Past.{Moment}
use Rattle.sig_tables.specs.Looking.{run, latched, signal_run, signal_latched, signal_runs_on, last_frame}
use Rattle.sig_tables.specs.Moves.{Moves}
use Rattle.sig_tables.specs.Decide.{colour_after}
use Rattle.tick_laws.specs.Steps.{Steps}
use Rattle.tick_laws.specs.Cycle.{OtherTimes, HeldTimes, Fits, GreenInTime, ClearsInTime, ReturnsInTime, RestsInTime}

-- a tick under pattern n: the counter goes from c to d, the tables stay the same, and phase p gets the colour that the
-- moves give it
pub record Next (t : Tables) (n p c d : ℕ) (moves : Moves) (past : List Moment) (m : Moment) : Type 0 where
  pub counter : Steps (cycle_time t n) (window t n) c d
  pub tables : m.tables ≡ t
  pub colour : colour_of m.frame p ≡ colour_after moves p t past (colour_of (last_frame past) p)

-- the colour began under the tables in force
abbrev pub Latched : Tables → ℕ → Colour → List Moment → Type 0
Latched t p colour past = latched p colour t past ≡ t

-- the times of a phase that isn't coordinated, by the tables

abbrev pub Other : Tables → ℕ → ℕ → Type 0
Other t n p = OtherTimes (cycle_time t n) (force_point t n p) (clearance t p) (least_service t p)

-- a phase that isn't coordinated: which ticks end and begin it, and its conditions while it is Green, Yellow or in red
-- clearance
pub record OtherMoves (t : Tables) (n p d : ℕ) (moves : Moves) (past : List Moment) : Type 0 where
  pub forced : colour_of (last_frame past) p ≡ Green → force_point t n p ≤ d → is_in moves.ends p ≡ true
  pub fits : is_in moves.begins p ≡ true → Fits (window t n) (force_point t n p) (least_service t p) d 0

pub record OtherGreen (t : Tables) (n p c : ℕ) (past : List Moment) : Type 0 where
  pub in_time : GreenInTime (window t n) (force_point t n p) (least_service t p) c (run p Green past)
  pub latched : Latched t p Green past

pub record OtherYellow (t : Tables) (n p c : ℕ) (past : List Moment) : Type 0 where
  pub in_time : ClearsInTime (cycle_time t n) (window t n) c (clearance t p + 1 - run p Yellow past)
  pub within : run p Yellow past ≤ yellow_time t p
  pub latched : Latched t p Yellow past

pub record OtherClear (t : Tables) (n p c : ℕ) (past : List Moment) : Type 0 where
  pub in_time : ClearsInTime (cycle_time t n) (window t n) c (red_clear_time t p + 1 - run p Clear past)
  pub within : run p Clear past ≤ red_clear_time t p
  pub latched : Latched t p Clear past

-- the condition on a phase that isn't coordinated at counter c, by its colour; Red has no condition
abbrev pub OtherStands : Tables → ℕ → ℕ → ℕ → List Moment → Colour → Type 0
OtherStands t n p c past Green = OtherGreen t n p c past
OtherStands t n p c past Yellow = OtherYellow t n p c past
OtherStands t n p c past Clear = OtherClear t n p c past
OtherStands t n p c past Red = Unit {0}

-- the times of a coordinated phase, by the tables

abbrev pub Held : Tables → ℕ → ℕ → Type 0
Held t n q = HeldTimes (window t n) (force_point t n q)

-- some other phase can be served after the clearance of q, and the red revert of q is over by the end of the other
-- phase's clearance
pub record FitsAfter (t : Tables) (n q d : ℕ) : Type 0 where
  pub phase : ℕ
  pub other : Other t n phase
  pub wait : ℕ
  pub clears : clearance t q ≤ wait
  pub fits : Fits (window t n) (force_point t n phase) (least_service t phase) d wait
  pub revert : red_revert_time t q ≤ least_service t phase + clearance t phase

-- a coordinated phase: a tick ends it only from its force point on, and only if another phase can be served after its
-- clearance; and its conditions while it is Yellow or in red clearance
pub record HeldMoves (t : Tables) (n q d : ℕ) (moves : Moves) : Type 0 where
  pub past : is_in moves.ends q ≡ true → force_point t n q ≤ d
  pub other : is_in moves.ends q ≡ true → FitsAfter t n q d

pub record HeldYellow (t : Tables) (n q c : ℕ) (past : List Moment) : Type 0 where
  pub in_time : ReturnsInTime (cycle_time t n) (force_point t n q) (red_revert_time t q) c (clearance t q + 1 - run q Yellow past)
  pub within : run q Yellow past ≤ yellow_time t q
  pub latched : Latched t q Yellow past

pub record HeldClear (t : Tables) (n q c : ℕ) (past : List Moment) : Type 0 where
  pub in_time : ReturnsInTime (cycle_time t n) (force_point t n q) (red_revert_time t q) c (red_clear_time t q + 1 - run q Clear past)
  pub within : run q Clear past ≤ red_clear_time t q
  pub latched : Latched t q Clear past

-- the condition on a coordinated phase at counter c, by its colour. If it isn't Green, it is past its force point and
-- can be Green again before the cycle ends
abbrev pub HeldStands : Tables → ℕ → ℕ → ℕ → List Moment → Colour → Type 0
HeldStands t n q c past Green = Unit {0}
HeldStands t n q c past Yellow = HeldYellow t n q c past
HeldStands t n q c past Clear = HeldClear t n q c past
HeldStands t n q c past Red = RestsInTime (cycle_time t n) (force_point t n q) (red_revert_time t q) c (run q Red past)

-- the pedestrian signals of a phase that isn't coordinated: its walk began with its Green
pub record WalksFromGreen (t : Tables) (p : ℕ) (past : List Moment) : Type 0 where
  pub together : signal_run p Walk past ≡ run p Green past
  pub within : signal_run p Walk past ≤ walk_time t p
  pub latched : signal_latched p Walk t past ≡ t

pub record FlashesFromGreen (t : Tables) (p : ℕ) (past : List Moment) : Type 0 where
  pub together : signal_run p Flash past + walk_time t p ≡ run p Green past
  pub within : signal_run p Flash past ≤ pedestrian_clear_time t p
  pub latched : signal_latched p Flash t past ≡ t

abbrev pub SignalStands : Tables → ℕ → List Moment → Ped → Type 0
SignalStands t p past Walk = WalksFromGreen t p past
SignalStands t p past Flash = FlashesFromGreen t p past
SignalStands t p past Dont = Unit {0}

-- the pedestrian signal after a tick: Walk begins only with Green, otherwise the signal advances by itself; only a
-- Green phase shows Walk or Flash
pub record SignalMoves (t : Tables) (p : ℕ) (past : List Moment) (m : Moment) : Type 0 where
  pub tables : m.tables ≡ t
  pub how : ((signal_of m.frame p ≡ Walk) × (colour_of (last_frame past) p ≡ Red) × (signal_of (last_frame past) p ≡ Dont) × (1 ≤ walk_time t p))
      ⊎ (signal_of m.frame p ≡ signal_runs_on p t past (signal_of (last_frame past) p))
  pub green : (signal_of m.frame p ≡ Dont) ⊎ (colour_of m.frame p ≡ Green)
