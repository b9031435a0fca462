-- The mode of a tick in two steps: the mode that start-up and flash require, and the mode that follows if they require
-- none.
use Rattle.std.specs.Prelude.{ℕ, ◌≡◌, ◌==◌, true, nat_le, if◌then◌else◌, List, Option, Some, None}
use Rattle.sig_types.specs.declared.frame.Frame.{Frame}
use Rattle.sig_types.specs.declared.frame.Mode.{Mode}
use Rattle.sig_types.specs.declared.frame.Mode.TheVariants.{Start, Seek, Flash}
use Rattle.sig_types.specs.Colour.{is_start}
use Rattle.sig_tables.specs.declared.tables.Tables.{Tables}
use Rattle.sig_tables.specs.Choosing.{flash_command, mode_commanded, mode_staged}
use Rattle.sig_tables.specs.Past.{Moment}
use Rattle.sig_tables.specs.Looking.{start_run, last_frame}
use Rattle.sig_tables.specs.Splits.{coordinated_phases}

-- if the last frame is in Start, `count` is the number of last frames in a row that are
abbrev pub CountsStart : ℕ → List Moment → Type 0
CountsStart count past = is_start (last_frame past).mode ≡ true → count ≡ start_run past

-- the mode that start-up and flash require after a frame of this mode, given the commanded pattern n. Start lasts 60
-- frames, of which `count` are over, and flash follows it if it is commanded. Flash lasts while it is commanded, and
-- Start follows it
abbrev pub own_mode : Mode → ℕ → ℕ → Option Mode
own_mode Start count n = if nat_le 60 count then (if n == flash_command then Some Flash else None) else Some Start
own_mode Flash count n = if n == flash_command then Some Flash else Some Start
own_mode mode count n = None

-- the mode if start-up and flash require none: after Start the commanded one; otherwise a stage of preemption, or the
-- commanded one if there is none
abbrev pub mode_beside : Mode → Frame → Option Mode → Tables → ℕ → ℕ → Mode
mode_beside Start f stage t version n = mode_commanded t version n f
mode_beside mode f stage t version n = mode_staged stage t version n f

-- the mode after frame f, if start-up and flash require none
abbrev pub other_mode : Frame → Option Mode → Tables → ℕ → ℕ → Mode
other_mode f stage t version n = mode_beside f.mode f stage t version n

-- in Seek these are the coordinated phases of the pattern
abbrev pub AreSought : Mode → List ℕ → Tables → Type 0
AreSought (Seek n) phases t = phases ≡ coordinated_phases t n
AreSought mode phases t = Unit {0}
