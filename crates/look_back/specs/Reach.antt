-- Bounds for the times of a phase, with which runs of frames are compared.
use Rattle.std.specs.Prelude.{ℕ, ◌≤◌}
use Rattle.sig_tables.specs.declared.tables.Tables.{Tables}
use Rattle.sig_tables.specs.Tables.{least_green, walk_time, pedestrian_clear_time, yellow_time, red_clear_time, red_revert_time, gap_time, maximum_time}

-- every time of phase p is at most `most` ticks
pub record TimesWithin (most : ℕ) (t : Tables) (p : ℕ) : Type 0 where
  pub green : least_green t p ≤ most
  pub walk : walk_time t p ≤ most
  pub pedestrian_clear : pedestrian_clear_time t p ≤ most
  pub yellow : yellow_time t p ≤ most
  pub red_clear : red_clear_time t p ≤ most
  pub red_revert : red_revert_time t p ≤ most
  pub gap : gap_time t p ≤ most
  pub maximum : maximum_time t p ≤ most
