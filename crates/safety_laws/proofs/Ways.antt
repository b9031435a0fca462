-- What is expected of the times of a phase that makes way for a preempt is what the rules of a tick leave of them.
use Rattle.std.proofs.Common.{◌≡◌, ◌≤◌, ◌*◌, ℕ, zero, suc, Bool, true, false, if◌then◌else◌, List, Option, Some, None, refl, arith}
use Rattle.std.proofs.lemmas.Bool.{false≢true}
use Rattle.sig_types.specs.declared.frame.Mode.{Mode}
use Rattle.sig_types.specs.declared.frame.Mode.TheVariants.{Start, Free, Seek, Coord, Ending, Flash, Entry, Track, Dwell, Exit}
use Rattle.sig_types.specs.Phases.{is_phase, all_phases, is_in, those}
use Rattle.sig_types.proofs.Sets.{in-phases}
use Rattle.sig_tables.specs.declared.tables.Tables.{Tables}
use Rattle.sig_tables.specs.declared.tables.Preempt.{Preempt}
use Rattle.sig_tables.specs.Cells.{preempt_of}
use Rattle.sig_tables.specs.Modes.{stage_of}
use Rattle.sig_tables.specs.Preempts.{entry_set, dwell_set}
use Rattle.sig_tables.specs.Lesser.{Lesser, InFull, AtMost, lesser_clear}
use Rattle.sig_tables.specs.Goals.{goal_in, lesser_times, lesser_in, lesser_green}
use Rattle.tick_laws.specs.Walking.{WalkLasted, FlashLasted}
use Rattle.tick_laws.proofs.Sought.{is_preempt, Numbered}
use Rattle.safety_laws.specs.Safe.{makes_way_for, green_due, walk_due, clearance_due}

-- what a preempt leaves of the pedestrian times
abbrev pub lesser_for : Option Preempt → Lesser
lesser_for None = InFull
lesser_for (Some preempt) = AtMost (10 * preempt.minimum_walk) (10 * preempt.enter_pedestrian_clear)

in-full : (b : Bool) → (if b then InFull else InFull) ≡ InFull
in-full true = refl
in-full false = refl

in-stage : (t : Tables) (goal : List ℕ) (i p : ℕ) → is_preempt i ≡ true → is_phase p ≡ true
    → (if is_in (those (is_in goal) all_phases) p then InFull else lesser_times t i) ≡ lesser_for (if is_in goal p then None else Some (preempt_of t i))
in-stage t goal zero p n ph = absurd (false≢true n)
in-stage t goal (suc i) p n ph = rw (in-phases (is_in goal) p ph) (split (is_in goal p))
  where
    split : (b : Bool) → (if b then InFull else lesser_times t (suc i)) ≡ lesser_for (if b then None else Some (preempt_of t (suc i)))
    split true = refl
    split false = refl

pub lesser-is : (t : Tables) (mode : Mode) (p : ℕ) → Numbered mode → is_phase p ≡ true → lesser_in t mode p ≡ lesser_for (makes_way_for t mode p)
lesser-is t (Entry i) p n ph = in-stage t (entry_set t i) i p n ph
lesser-is t (Track i) p n ph = in-stage t (entry_set t i) i p n ph
lesser-is t (Dwell i) p n ph = in-stage t (dwell_set t i) i p n ph
lesser-is t Start p n ph = in-full (is_in (goal_in t Start) p)
lesser-is t Free p n ph = in-full (is_in (goal_in t Free) p)
lesser-is t (Seek m) p n ph = in-full (is_in (goal_in t (Seek m)) p)
lesser-is t (Coord m) p n ph = in-full (is_in (goal_in t (Coord m)) p)
lesser-is t Ending p n ph = in-full (is_in (goal_in t Ending) p)
lesser-is t Flash p n ph = in-full (is_in (goal_in t Flash) p)
lesser-is t (Exit i) p n ph = in-full (is_in (goal_in t (Exit i)) p)

-- the same of a green
in-time : (b : Bool) (time : ℕ) → (if b then time else time) ≡ time
in-time true time = refl
in-time false time = refl

green-in-stage : (t : Tables) (goal : List ℕ) (i p time : ℕ) → is_preempt i ≡ true → is_phase p ≡ true
    → (if is_in (those (is_in goal) all_phases) p then time else lesser_green t i time) ≡ green_due (if is_in goal p then None else Some (preempt_of t i)) time
green-in-stage t goal zero p time n ph = absurd (false≢true n)
green-in-stage t goal (suc i) p time n ph = rw (in-phases (is_in goal) p ph) (split (is_in goal p))
  where
    split : (b : Bool) → (if b then time else lesser_green t (suc i) time) ≡ green_due (if b then None else Some (preempt_of t (suc i))) time
    split true = refl
    split false = refl

pub green-is : (t : Tables) (mode : Mode) (p time : ℕ) → Numbered mode → is_phase p ≡ true
    → (if is_in (goal_in t mode) p then time else lesser_green t (stage_of mode) time) ≡ green_due (makes_way_for t mode p) time
green-is t (Entry i) p time n ph = green-in-stage t (entry_set t i) i p time n ph
green-is t (Track i) p time n ph = green-in-stage t (entry_set t i) i p time n ph
green-is t (Dwell i) p time n ph = green-in-stage t (dwell_set t i) i p time n ph
green-is t Start p time n ph = in-time (is_in (goal_in t Start) p) time
green-is t Free p time n ph = in-time (is_in (goal_in t Free) p) time
green-is t (Seek m) p time n ph = in-time (is_in (goal_in t (Seek m)) p) time
green-is t (Coord m) p time n ph = in-time (is_in (goal_in t (Coord m)) p) time
green-is t Ending p time n ph = in-time (is_in (goal_in t Ending) p) time
green-is t Flash p time n ph = in-time (is_in (goal_in t Flash) p) time
green-is t (Exit i) p time n ph = in-time (is_in (goal_in t (Exit i)) p) time

-- what lasted so lasted what was expected
pub walk-lasted : (o : Option Preempt) (time ran : ℕ) → WalkLasted (lesser_for o) time ran → walk_due o time ≤ ran
walk-lasted None time ran h = omega (arith, h)
walk-lasted (Some preempt) time ran h = h

pub flash-lasted : (o : Option Preempt) (time ran : ℕ) → FlashLasted (lesser_for o) time ran → clearance_due o time ≤ ran
flash-lasted None time ran h = omega (arith, h)
flash-lasted (Some preempt) time ran h = h

pub clear-is : (o : Option Preempt) (time : ℕ) → lesser_clear (lesser_for o) time ≡ clearance_due o time
clear-is None time = refl
clear-is (Some preempt) time = refl
