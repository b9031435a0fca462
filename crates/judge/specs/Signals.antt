-- What the registers of a phase's pedestrian signal represent: what looking back over the lines of the cabinet gives.
use Rattle.std.specs.Prelude.{ℕ, ◌≡◌, Bool, List, ◌∷◌, Option}
use Rattle.sig_types.specs.declared.frame.Ped.{Ped}
use Rattle.sig_types.specs.declared.frame.Ped.TheVariants.{Walk, Flash, Dont}
use Rattle.sig_tables.specs.declared.tables.PhaseTimes.{PhaseTimes}
use Rattle.sig_tables.specs.declared.tables.Tables.{Tables}
use Rattle.sig_tables.specs.Tables.{row, walk_time, pedestrian_clear_time}
use Rattle.safety_laws.specs.Safe.{Indications, makes_way_for}
use Rattle.judge_laws.specs.Joined.{knows_last, saw_beginning}
use Rattle.judge_laws.specs.Overrun.{runs_over}
use Rattle.judge_laws.specs.Breaches.{within, signal_of, gives, newest, first_of, ends_walk_wrong}
use Rattle.judge.specs.declared.signals.SignalWatch.{SignalWatch}
use Rattle.judge.specs.declared.lesser.LesserTimes.{LesserTimes}
use Rattle.judge.specs.declared.lengths.Step.{Step}
use Rattle.judge.specs.Lesser.{lesser_of}
use Rattle.judge.specs.Since.{since_if}

-- the time of an interval of a signal by the tables; 0 for Dont
abbrev pub signal_time_of : Ped → Tables → ℕ → ℕ
signal_time_of Walk t p = walk_time t p
signal_time_of Flash t p = pedestrian_clear_time t p
signal_time_of Dont t p = 0

-- the registers of phase p represent these lines: they hold the signal shown last, the first tick of its interval, its
-- time by the tables of that tick, and whether the log shows its beginning
pub record Heeds (w : SignalWatch) (joined : Bool) (tables : ℕ → Tables) (p : ℕ) (older : List (ℕ × Indications)) : Type 0 where
  pub signal : w.signal ≡ signal_of (newest older) p
  pub since : w.since ≡ (first_of (gives w.signal p) older).0
  pub time : w.time ≡ signal_time_of w.signal (tables (first_of (gives w.signal p) older).1.version) p
  pub begun : w.begun ≡ saw_beginning joined (gives w.signal p) older

-- a line that shows this signal of phase p, under this row of the tables, with these times left by a preempt
pub record ShowsSignal (joined : Bool) (step : Step) (now : Ped) (times : PhaseTimes) (left : Option LesserTimes) (tables : ℕ → Tables) (p : ℕ)
    (older : List (ℕ × Indications)) (line : ℕ × Indications) : Type 0 where
  pub at : line.0 ≡ step.tick
  pub known : step.known ≡ knows_last joined older
  pub given : signal_of line.1 p ≡ now
  pub row : row (tables line.1.version) p ≡ times
  pub way : lesser_of (makes_way_for (tables line.1.version) line.1.mode p) ≡ left

-- if the old registers represent the lines before a line, the new ones represent the lines with it
abbrev pub HeedsNext : SignalWatch → SignalWatch → ℕ → Step → Ped → PhaseTimes → Option LesserTimes → Type 0
HeedsNext old new p step now times left = (joined : Bool) (tables : ℕ → Tables) (older : List (ℕ × Indications)) (line : ℕ × Indications)
    → Heeds old joined tables p older → ShowsSignal joined step now times left tables p older line → Heeds new joined tables p (line ∷ older)

-- whether the line ends a walk or a pedestrian clearance of a wrong length
abbrev pub JudgesSignal : SignalWatch → Bool → ℕ → Step → Ped → PhaseTimes → Option LesserTimes → Type 0
JudgesSignal old wrong p step now times left = (joined : Bool) (tables : ℕ → Tables) (older : List (ℕ × Indications)) (line : ℕ × Indications)
    → Heeds old joined tables p older → ShowsSignal joined step now times left tables p older line
    → wrong ≡ ends_walk_wrong (within step.tolerance joined) tables p older line

-- the first tick of this signal's interval, if the interval exceeds its time at a tick
abbrev pub SignalRunsOver : SignalWatch → Option ℕ → Ped → ℕ → ℕ → ℕ → Type 0
SignalRunsOver w since signal tick tolerance p = (joined : Bool) (tables : ℕ → Tables) (older : List (ℕ × Indications)) → Heeds w joined tables p older
    → since ≡ since_if (runs_over tolerance (gives signal p) (λ first. signal_time_of signal (tables first.1.version) p) tick older) (first_of (gives signal p) older).0
