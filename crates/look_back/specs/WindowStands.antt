-- The window represents all that was seen of a cabinet since it was opened.
use Rattle.std.specs.Prelude.{ℕ, ◌≡◌, ◌&&◌, not, true, List}
use Rattle.sig_types.specs.Phases.{is_phase, is_in}
use Rattle.sig_types.specs.PhaseSet.{has}
use Rattle.sig_tables.specs.Past.{Moment}
use Rattle.sig_tables.specs.Looking.{last_frame}
use Rattle.sig_tables.specs.Calls.{is_green}
use Rattle.look_back.specs.declared.window.Seen.{Seen}
use Rattle.look_back.specs.declared.window.Window.{Window}
use Rattle.look_back.specs.Shown.{IsShown}
use Rattle.look_back.specs.FrameRunsKeep.{FrameRunsKeep, newest_of}

-- the window represents these moments: the runs store them, and the colours and signals are those of the last frame
pub record WindowStands (w : Window) (past : List Moment) : Type 0 where
  pub kept : FrameRunsKeep w.kept past
  pub veh : w.veh ≡ (last_frame past).veh
  pub ped : w.ped ≡ (last_frame past).ped
  pub shown : IsShown (newest_of w.kept).shown w.veh w.ped

-- what was seen of moment m, which follows these: its frame, the Green phases that were not active, and those for which
-- a conflicting phase had demand
pub record Saw (m : Moment) (s : Seen) (past : List Moment) : Type 0 where
  pub frame : m.frame ≡ s.frame
  pub quiet : (p : ℕ) → is_phase p ≡ true → is_in m.quiet p ≡ (is_green (last_frame past) p && not (has s.active p))
  pub opposed : (p : ℕ) → is_phase p ≡ true → is_in m.opposed p ≡ (is_green (last_frame past) p && has s.opposed p)
