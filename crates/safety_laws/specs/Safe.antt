-- What it means that the street of a trace is safe. The definition uses only the F lines of a cabinet and its tables.
use Rattle.std.specs.Prelude.{ℕ, ◌+◌, ◌-◌, ◌*◌, ◌==◌, ◌<◌, ◌≤◌, ◌≡◌, ◌≢◌, ◌⊎◌, max, min, nat_le, true, false, if◌then◌else◌, List, [], ◌∷◌, replicate}
use Rattle.std.specs.Prelude.{get_or, Option, Some, None}
use Rattle.sig_types.specs.declared.frame.Colour.{Colour}
use Rattle.sig_types.specs.declared.frame.Colour.TheVariants.{Green, Yellow, Clear, Red}
use Rattle.sig_types.specs.declared.frame.Ped.{Ped}
use Rattle.sig_types.specs.declared.frame.Ped.TheVariants.{Walk, Flash, Dont}
use Rattle.sig_types.specs.declared.frame.Mode.{Mode}
use Rattle.sig_types.specs.declared.frame.Mode.TheVariants.{Start, Entry, Track, Dwell}
use Rattle.sig_types.specs.Phases.{is_phase, is_in}
use Rattle.sig_tables.specs.declared.tables.Tables.{Tables}
use Rattle.sig_tables.specs.declared.tables.Preempt.{Preempt}
use Rattle.sig_tables.specs.Tables.{is_enabled, least_green, yellow_time, red_clear_time, walk_time, pedestrian_clear_time}
use Rattle.sig_tables.specs.Sides.{are_incompatible}
use Rattle.sig_tables.specs.Cells.{preempt_of}
use Rattle.sig_tables.specs.Preempts.{entry_set, dwell_set}
use Rattle.trace_text.specs.declared.lines.Line.{Line}
use Rattle.trace_text.specs.declared.lines.Line.TheVariants.{F}

-- what a cabinet shows at a tick: the colour and the pedestrian signal of each phase, the mode of the tick, and the
-- version of the tables in force
pub record Indications : Type 0 where
  pub colours : List Colour
  pub signals : List Ped
  pub mode : Mode
  pub version : ℕ

-- the display before any line: every phase shows Red and Dont (don't walk)
abbrev pub dark : Indications
dark = record { colours = replicate 16 Red; signals = replicate 16 Dont; mode = Start; version = 0 }

-- the F lines of a cabinet, in the order of the trace: for each its tick, and what is shown at it
abbrev pub told : ℕ → List Line → List (ℕ × Indications)
told cab [] = []
told cab (F c tick veh ped mode counter target version ∷ lines) =
    if c == cab then (tick, record { colours = veh; signals = ped; mode = mode; version = version }) ∷ told cab lines else told cab lines
told cab (_ ∷ lines) = told cab lines

-- what is shown at a tick: the display of the last of these lines at or before the tick, or `before` if there is none
abbrev pub shown_at : ℕ → Indications → List (ℕ × Indications) → Indications
shown_at tick before [] = before
shown_at tick before (line ∷ lines) = shown_at tick (if nat_le line.0 tick then line.1 else before) lines

-- a cabinet as the street sees it: what it shows at each tick (0.1 s), and the tables of each version
pub record Intersection : Type 0 where
  pub tables : ℕ → Tables
  pub shown : ℕ → Indications

-- a cabinet of a trace: it shows the display of an F line until its next F line; before its first one every phase shows
-- Red and Dont
abbrev pub intersection_of : ℕ → (ℕ → Tables) → List Line → Intersection
intersection_of cab tables lines = record { tables = tables; shown = λ tick. shown_at tick dark (told cab lines) }

-- the colour of phase p at a tick
abbrev pub colour_at : Intersection → ℕ → ℕ → Colour
colour_at s p tick = get_or (s.shown tick).colours (p - 1) Green

-- the pedestrian signal of phase p at a tick
abbrev pub signal_at : Intersection → ℕ → ℕ → Ped
signal_at s p tick = get_or (s.shown tick).signals (p - 1) Walk

-- the mode at a tick
abbrev pub mode_at : Intersection → ℕ → Mode
mode_at s tick = (s.shown tick).mode

-- the tables in force at a tick
abbrev pub in_force : Intersection → ℕ → Tables
in_force s tick = s.tables (s.shown tick).version

-- of two conflicting phases at least one shows Red, and at least one shows Dont; a phase that isn't enabled shows Red
-- and Dont
pub record Apart (s : Intersection) (tick : ℕ) : Type 0 where
  pub colours : (p q : ℕ) → are_incompatible (in_force s tick) p q ≡ true → (colour_at s p tick ≡ Red) ⊎ (colour_at s q tick ≡ Red)
  pub signals : (p q : ℕ) → are_incompatible (in_force s tick) p q ≡ true → (signal_at s p tick ≡ Dont) ⊎ (signal_at s q tick ≡ Dont)
  pub disabled : (p : ℕ) → is_phase p ≡ true → is_enabled (in_force s tick) p ≡ false
      → (colour_at s p tick ≡ Red) × (signal_at s p tick ≡ Dont)

-- the preempt that may shorten the times of phase p in this mode: the preempt that is served, if p isn't one of the
-- phases that it serves
abbrev pub makes_way_for : Tables → Mode → ℕ → Option Preempt
makes_way_for t (Entry i) p = if is_in (entry_set t i) p then None else Some (preempt_of t i)
makes_way_for t (Track i) p = if is_in (entry_set t i) p then None else Some (preempt_of t i)
makes_way_for t (Dwell i) p = if is_in (dwell_set t i) p then None else Some (preempt_of t i)
makes_way_for t mode p = None

-- the shortest length that is allowed for a green, a walk or a pedestrian clearance of this time: the whole time, or
-- the shorter one that the preempt allows; a green and a walk last at least one tick
abbrev pub green_due : Option Preempt → ℕ → ℕ
green_due None time = time
green_due (Some preempt) time = max 1 (min time (10 * preempt.minimum_green))

abbrev pub walk_due : Option Preempt → ℕ → ℕ
walk_due None time = time
walk_due (Some preempt) time = max 1 (min time (10 * preempt.minimum_walk))

abbrev pub clearance_due : Option Preempt → ℕ → ℕ
clearance_due None time = time
clearance_due (Some preempt) time = min time (10 * preempt.enter_pedestrian_clear)

-- the colour of phase p that follows a colour; red clearance is left out if its time is 0
abbrev pub next_colour : Tables → ℕ → Colour → Colour
next_colour t p Green = Yellow
next_colour t p Yellow = if red_clear_time t p == 0 then Red else Clear
next_colour t p Clear = Red
next_colour t p Red = Green

-- the pedestrian signal of phase p that follows a signal in this mode; pedestrian clearance is left out if its shortest
-- allowed length is 0
abbrev pub next_signal : Tables → Mode → ℕ → Ped → Ped
next_signal t mode p Dont = Walk
next_signal t mode p Walk = if clearance_due (makes_way_for t mode p) (pedestrian_clear_time t p) == 0 then Dont else Flash
next_signal t mode p Flash = Dont

-- if the colour or the pedestrian signal of phase p changes at the next tick, the new one is the one that follows
pub record PhaseFollows (s : Intersection) (p tick : ℕ) : Type 0 where
  pub colour : colour_at s p (tick + 1) ≢ colour_at s p tick
      → colour_at s p (tick + 1) ≡ next_colour (in_force s (tick + 1)) p (colour_at s p tick)
  pub signal : signal_at s p (tick + 1) ≢ signal_at s p tick
      → signal_at s p (tick + 1) ≡ next_signal (in_force s (tick + 1)) (mode_at s (tick + 1)) p (signal_at s p tick)

-- an interval that has ended: the fact holds at each tick from `first` until before `end`, but neither at the tick
-- before `first` nor at `end`
pub record Interval (holds : ℕ → Type 0) (first end : ℕ) : Type 0 where
  pub some : first < end
  pub during : (tick : ℕ) → first ≤ tick → tick < end → holds tick
  pub before : (tick : ℕ) → tick + 1 ≡ first → ¬ holds tick
  pub after : ¬ holds end

-- the preempt that may shorten the times of phase p at a tick
abbrev pub way_at : Intersection → ℕ → ℕ → Option Preempt
way_at s p tick = makes_way_for (in_force s tick) (mode_at s tick) p

-- intervals of phase p that have ended. Each Yellow and each Clear (red clearance) lasted exactly its time by the
-- tables at its first tick. Each Green lasted at least the shortest length that is allowed at its end. Each Walk and
-- each Flash (pedestrian clearance) lasted at least that long and at most its time, so exactly its time unless a
-- preempt may shorten it
pub record Lasts (s : Intersection) (p first end : ℕ) : Type 0 where
  pub yellow : Interval (λ tick. colour_at s p tick ≡ Yellow) first end → end ≡ first + yellow_time (in_force s first) p
  pub clear : Interval (λ tick. colour_at s p tick ≡ Clear) first end → end ≡ first + red_clear_time (in_force s first) p
  pub green : Interval (λ tick. colour_at s p tick ≡ Green) first end
      → first + green_due (way_at s p end) (least_green (in_force s first) p) ≤ end
  pub walk : Interval (λ tick. signal_at s p tick ≡ Walk) first end
      → (first + walk_due (way_at s p end) (walk_time (in_force s first) p) ≤ end) × (end ≤ first + walk_time (in_force s first) p)
  pub flash : Interval (λ tick. signal_at s p tick ≡ Flash) first end
      → (first + clearance_due (way_at s p end) (pedestrian_clear_time (in_force s first) p) ≤ end)
      × (end ≤ first + pedestrian_clear_time (in_force s first) p)

-- the street is safe at every tick; the last clause: a phase shows Walk or Flash only while it is Green
pub record Safe (s : Intersection) : Type 0 where
  pub apart : (tick : ℕ) → Apart s tick
  pub follows : (p tick : ℕ) → is_phase p ≡ true → PhaseFollows s p tick
  pub lasts : (p first end : ℕ) → is_phase p ≡ true → Lasts s p first end
  pub on_green : (p tick : ℕ) → is_phase p ≡ true → (signal_at s p tick ≡ Dont) ⊎ (colour_at s p tick ≡ Green)
