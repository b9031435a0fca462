-- The phases that a mode brings to Green, and the shorter times of phases that make way for a preempt.
use Rattle.std.specs.Prelude.{ℕ, zero, suc, ◌*◌, ◌&&◌, max, min, nat_le, Bool, if◌then◌else◌, List, []}
use Rattle.sig_types.specs.declared.frame.Colour.TheVariants.{Green}
use Rattle.sig_types.specs.declared.frame.Ped.TheVariants.{Dont}
use Rattle.sig_types.specs.declared.frame.Mode.{Mode}
use Rattle.sig_types.specs.declared.frame.Mode.TheVariants.{Seek, Entry, Track, Dwell, Exit}
use Rattle.sig_types.specs.Phases.{all_phases, is_in, those}
use Rattle.sig_types.specs.Colour.{same_signal, signal_of}
use Rattle.sig_tables.specs.declared.tables.Tables.{Tables}
use Rattle.sig_tables.specs.Tables.{least_green}
use Rattle.sig_tables.specs.Cells.{preempt_of}
use Rattle.sig_tables.specs.Splits.{coordinated_phases}
use Rattle.sig_tables.specs.Modes.{stage_of}
use Rattle.sig_tables.specs.Preempts.{entry_set, dwell_set, exit_set}
use Rattle.sig_tables.specs.Past.{Moment}
use Rattle.sig_tables.specs.Looking.{run, latched, last_frame}
use Rattle.sig_tables.specs.Lesser.{Lesser, InFull, AtMost, signal_runs_within}

-- the phases that this mode brings to Green, as the tables list them: coordinated phases in Seek, phases of the preempt
-- in its stages and its exit, none in other modes
abbrev pub listed_goal : Tables → Mode → List ℕ
listed_goal t (Seek n) = coordinated_phases t n
listed_goal t (Entry i) = entry_set t i
listed_goal t (Track i) = entry_set t i
listed_goal t (Dwell i) = dwell_set t i
listed_goal t (Exit i) = exit_set t i
listed_goal t mode = []

-- the same phases in rising order
abbrev pub goal_in : Tables → Mode → List ℕ
goal_in t mode = those (is_in (listed_goal t mode)) all_phases

-- the limits on the walk and the pedestrian clearance of a phase: those of preempt i, or no limits if no preempt (0) is
-- served
abbrev pub lesser_times : Tables → ℕ → Lesser
lesser_times t zero = InFull
lesser_times t (suc i) = AtMost (10 * (preempt_of t (suc i)).minimum_walk) (10 * (preempt_of t (suc i)).enter_pedestrian_clear)

-- the limits on the walk and the pedestrian clearance of phase p at a tick of this mode; a phase that the mode brings
-- to Green has none
abbrev pub lesser_in : Tables → Mode → ℕ → Lesser
lesser_in t mode p = if is_in (goal_in t mode) p then InFull else lesser_times t (stage_of mode)

-- the minimum green that is left of a time while preempt i is served, at least one tick; the whole time if i is 0 (no
-- preempt)
abbrev pub lesser_green : Tables → ℕ → ℕ → ℕ
lesser_green t zero time = time
lesser_green t (suc i) time = max 1 (min time (10 * (preempt_of t (suc i)).minimum_green))

-- phase p has been Green for the minimum that this mode leaves it, and shows neither walk nor pedestrian clearance at
-- this tick
abbrev pub is_cleared : Mode → Tables → List Moment → ℕ → Bool
is_cleared mode now past p =
    nat_le (lesser_green now (stage_of mode) (least_green (latched p Green now past) p)) (run p Green past)
    && same_signal (signal_runs_within (lesser_times now (stage_of mode)) p now past (signal_of (last_frame past) p)) Dont
