-- What the registers of a phase's colour represent: what looking back over the lines of the cabinet gives. Lists have
-- the newest line first.
use Rattle.std.specs.Prelude.{ℕ, ◌≡◌, Bool, List, ◌∷◌, Option}
use Rattle.sig_types.specs.declared.frame.Colour.{Colour}
use Rattle.sig_types.specs.declared.frame.Colour.TheVariants.{Green, Yellow, Clear, Red}
use Rattle.sig_tables.specs.declared.tables.PhaseTimes.{PhaseTimes}
use Rattle.sig_tables.specs.declared.tables.Tables.{Tables}
use Rattle.sig_tables.specs.Tables.{row, least_green, yellow_time, red_clear_time}
use Rattle.safety_laws.specs.Safe.{Indications, makes_way_for}
use Rattle.judge_laws.specs.Joined.{knows_last, saw_beginning}
use Rattle.judge_laws.specs.Overrun.{runs_over}
use Rattle.judge_laws.specs.Breaches.{within, colour_of, shows, newest, first_of, ends_clearance_wrong, ends_green_wrong}
use Rattle.judge.specs.declared.colours.ColourWatch.{ColourWatch}
use Rattle.judge.specs.declared.lesser.LesserTimes.{LesserTimes}
use Rattle.judge.specs.declared.lengths.Step.{Step}
use Rattle.judge.specs.Lesser.{lesser_of}
use Rattle.judge.specs.Since.{since_if}

-- the time of an interval of a colour by the tables: for Green the minimum, for Red 0
abbrev pub time_of : Colour → Tables → ℕ → ℕ
time_of Green t p = least_green t p
time_of Yellow t p = yellow_time t p
time_of Clear t p = red_clear_time t p
time_of Red t p = 0

-- the registers of phase p represent these lines: they hold the colour shown last, the first tick of its interval, its
-- time by the tables of that tick, and whether the log shows its beginning
pub record Watches (w : ColourWatch) (joined : Bool) (tables : ℕ → Tables) (p : ℕ) (older : List (ℕ × Indications)) : Type 0 where
  pub colour : w.colour ≡ colour_of (newest older) p
  pub since : w.since ≡ (first_of (shows w.colour p) older).0
  pub time : w.time ≡ time_of w.colour (tables (first_of (shows w.colour p) older).1.version) p
  pub begun : w.begun ≡ saw_beginning joined (shows w.colour p) older

-- a line that shows this colour of phase p, under this row of the tables, with these times left by a preempt
pub record ShowsColour (joined : Bool) (step : Step) (now : Colour) (times : PhaseTimes) (left : Option LesserTimes) (tables : ℕ → Tables) (p : ℕ)
    (older : List (ℕ × Indications)) (line : ℕ × Indications) : Type 0 where
  pub at : line.0 ≡ step.tick
  pub known : step.known ≡ knows_last joined older
  pub shown : colour_of line.1 p ≡ now
  pub row : row (tables line.1.version) p ≡ times
  pub way : lesser_of (makes_way_for (tables line.1.version) line.1.mode p) ≡ left

-- if the old registers represent the lines before a line, the new ones represent the lines with it
abbrev pub WatchesNext : ColourWatch → ColourWatch → ℕ → Step → Colour → PhaseTimes → Option LesserTimes → Type 0
WatchesNext old new p step now times left = (joined : Bool) (tables : ℕ → Tables) (older : List (ℕ × Indications)) (line : ℕ × Indications)
    → Watches old joined tables p older → ShowsColour joined step now times left tables p older line → Watches new joined tables p (line ∷ older)

-- whether the line ends a yellow or a red clearance of a wrong length; whether it ends a green too early
abbrev pub JudgesClearance : ColourWatch → Bool → ℕ → Step → Colour → PhaseTimes → Option LesserTimes → Type 0
JudgesClearance old wrong p step now times left = (joined : Bool) (tables : ℕ → Tables) (older : List (ℕ × Indications)) (line : ℕ × Indications)
    → Watches old joined tables p older → ShowsColour joined step now times left tables p older line
    → wrong ≡ ends_clearance_wrong (within step.tolerance joined) tables p older line

abbrev pub JudgesGreen : ColourWatch → Bool → ℕ → Step → Colour → PhaseTimes → Option LesserTimes → Type 0
JudgesGreen old wrong p step now times left = (joined : Bool) (tables : ℕ → Tables) (older : List (ℕ × Indications)) (line : ℕ × Indications)
    → Watches old joined tables p older → ShowsColour joined step now times left tables p older line
    → wrong ≡ ends_green_wrong (within step.tolerance joined) tables p older line

-- the first tick of this colour's interval, if the interval exceeds its time at a tick
abbrev pub ColourRunsOver : ColourWatch → Option ℕ → Colour → ℕ → ℕ → ℕ → Type 0
ColourRunsOver w since colour tick tolerance p = (joined : Bool) (tables : ℕ → Tables) (older : List (ℕ × Indications)) → Watches w joined tables p older
    → since ≡ since_if (runs_over tolerance (shows colour p) (λ first. time_of colour (tables first.1.version) p) tick older) (first_of (shows colour p) older).0
