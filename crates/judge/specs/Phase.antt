-- What the registers of a phase represent, and which breaches a line shows at the phase.
use Rattle.std.specs.Prelude.{ℕ, ◌≡◌, ◌||◌, not, Bool, List, ◌∷◌, Option}
use Rattle.sig_types.specs.declared.frame.Ped.{Ped}
use Rattle.sig_types.specs.declared.frame.Ped.TheVariants.{Walk, Flash, Dont}
use Rattle.sig_types.specs.declared.frame.Colour.{Colour}
use Rattle.sig_types.specs.declared.frame.Colour.TheVariants.{Green, Yellow, Clear}
use Rattle.sig_tables.specs.declared.tables.PhaseTimes.{PhaseTimes}
use Rattle.sig_tables.specs.declared.tables.Tables.{Tables}
use Rattle.sig_tables.specs.Tables.{row, yellow_time, red_clear_time, walk_time, pedestrian_clear_time}
use Rattle.safety_laws.specs.Safe.{Indications, makes_way_for}
use Rattle.judge_laws.specs.Joined.{knows_last}
use Rattle.judge_laws.specs.Overrun.{runs_over}
use Rattle.judge_laws.specs.Breaches.{within, colour_of, signal_of, shows, gives, first_of, breaks_order, ends_clearance_wrong, ends_green_wrong, ends_walk_wrong}
use Rattle.judge.specs.declared.phases.PhaseWatch.{PhaseWatch}
use Rattle.judge.specs.declared.phases.CourseFound.{CourseFound}
use Rattle.judge.specs.declared.phases.PhaseOverruns.{PhaseOverruns}
use Rattle.judge.specs.declared.lesser.LesserTimes.{LesserTimes}
use Rattle.judge.specs.declared.lengths.Step.{Step}
use Rattle.judge.specs.Lesser.{lesser_of}
use Rattle.judge.specs.Since.{since_if}
use Rattle.judge.specs.Watches.{Watches}
use Rattle.judge.specs.Signals.{Heeds}

-- the registers of phase p represent these lines, for its colour and for its pedestrian signal
pub record Follows (w : PhaseWatch) (joined : Bool) (tables : ℕ → Tables) (p : ℕ) (older : List (ℕ × Indications)) : Type 0 where
  pub colour : Watches w.colour joined tables p older
  pub signal : Heeds w.signal joined tables p older

-- a line that shows this colour and signal of phase p, under this row of the tables, with these times left by a preempt
pub record Shows (joined : Bool) (step : Step) (colour : Colour) (signal : Ped) (times : PhaseTimes) (left : Option LesserTimes) (tables : ℕ → Tables)
    (p : ℕ) (older : List (ℕ × Indications)) (line : ℕ × Indications) : Type 0 where
  pub at : line.0 ≡ step.tick
  pub known : step.known ≡ knows_last joined older
  pub shown : colour_of line.1 p ≡ colour
  pub given : signal_of line.1 p ≡ signal
  pub row : row (tables line.1.version) p ≡ times
  pub way : lesser_of (makes_way_for (tables line.1.version) line.1.mode p) ≡ left

-- what is found at phase p are the breaches of order and of length that a line shows there
pub record FindsCourse (found : CourseFound) (tolerance : ℕ) (joined : Bool) (tables : ℕ → Tables) (p : ℕ) (older : List (ℕ × Indications))
    (line : ℕ × Indications) : Type 0 where
  pub order : found.order ≡ breaks_order joined tables p older line
  pub clearance : found.clearance ≡ ends_clearance_wrong (within tolerance joined) tables p older line
  pub green : found.green ≡ ends_green_wrong (within tolerance joined) tables p older line
  pub pedestrian : found.pedestrian ≡ ends_walk_wrong (within tolerance joined) tables p older line
  pub on_green : found.on_green ≡ not (gives Dont p line.1 || shows Green p line.1)

-- one step of a phase: what is found are the breaches that the line shows, and the new registers represent the lines
-- with this one
abbrev pub PhaseSteps : PhaseWatch → PhaseWatch → CourseFound → ℕ → Step → Colour → Ped → PhaseTimes → Option LesserTimes → Type 0
PhaseSteps old new found p step colour signal times left = (joined : Bool) (tables : ℕ → Tables) (older : List (ℕ × Indications)) (line : ℕ × Indications)
    → Follows old joined tables p older → Shows joined step colour signal times left tables p older line
    → FindsCourse found step.tolerance joined tables p older line × Follows new joined tables p (line ∷ older)

-- whether a line breaks the order of phase p
abbrev pub JudgesOrder : PhaseWatch → Bool → ℕ → Step → Colour → Ped → PhaseTimes → Option LesserTimes → Type 0
JudgesOrder old order p step colour signal times left = (joined : Bool) (tables : ℕ → Tables) (older : List (ℕ × Indications)) (line : ℕ × Indications)
    → Follows old joined tables p older → Shows joined step colour signal times left tables p older line
    → order ≡ breaks_order joined tables p older line

-- the two halves of a step: the new registers, and what is found
abbrev pub StepsOn : PhaseWatch → PhaseWatch → ℕ → Step → Colour → Ped → PhaseTimes → Option LesserTimes → Type 0
StepsOn old new p step colour signal times left = (joined : Bool) (tables : ℕ → Tables) (older : List (ℕ × Indications)) (line : ℕ × Indications)
    → Follows old joined tables p older → Shows joined step colour signal times left tables p older line → Follows new joined tables p (line ∷ older)

abbrev pub FindsOn : PhaseWatch → CourseFound → ℕ → Step → Colour → Ped → PhaseTimes → Option LesserTimes → Type 0
FindsOn old found p step colour signal times left = (joined : Bool) (tables : ℕ → Tables) (older : List (ℕ × Indications)) (line : ℕ × Indications)
    → Follows old joined tables p older → Shows joined step colour signal times left tables p older line
    → FindsCourse found step.tolerance joined tables p older line

-- the intervals of phase p that exceed their time at a tick
pub record OverrunsAt (overruns : PhaseOverruns) (tick tolerance : ℕ) (tables : ℕ → Tables) (p : ℕ) (older : List (ℕ × Indications)) : Type 0 where
  pub yellow : overruns.yellow
      ≡ since_if (runs_over tolerance (shows Yellow p) (λ first. yellow_time (tables first.1.version) p) tick older) (first_of (shows Yellow p) older).0
  pub clear : overruns.clear
      ≡ since_if (runs_over tolerance (shows Clear p) (λ first. red_clear_time (tables first.1.version) p) tick older) (first_of (shows Clear p) older).0
  pub walk : overruns.walk
      ≡ since_if (runs_over tolerance (gives Walk p) (λ first. walk_time (tables first.1.version) p) tick older) (first_of (gives Walk p) older).0
  pub flash : overruns.flash
      ≡ since_if (runs_over tolerance (gives Flash p) (λ first. pedestrian_clear_time (tables first.1.version) p) tick older) (first_of (gives Flash p) older).0

abbrev pub RunsOver : PhaseWatch → PhaseOverruns → ℕ → ℕ → ℕ → Type 0
RunsOver w overruns tick tolerance p = (joined : Bool) (tables : ℕ → Tables) (older : List (ℕ × Indications))
    → Follows w joined tables p older → OverrunsAt overruns tick tolerance tables p older
