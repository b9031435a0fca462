-- A count represents the counters of the frames since the pickup.
use Rattle.std.specs.Prelude.{ℕ, ◌≡◌, min, List}
use Rattle.sig_tables.specs.Counting.{last_counter, stands, skips, last_step_changed}
use Rattle.coord_count.specs.declared.Count.{Count}

-- the stored counter
abbrev pub counter_of : Count → ℕ
counter_of count = count.counter

-- the greatest number of waits or skips that is stored; no limit is greater
abbrev pub greatest_kept : ℕ
greatest_kept = 4294967295

-- the count represents these counters, newest first: those of the frames coordinated in the pattern since its pickup.
-- Without coordination nothing is required of it
pub record CountStands (count : Count) (counters : List ℕ) : Type 0 where
  pub counter : count.counter ≡ last_counter counters
  pub stands : count.stands ≡ min (stands counters) greatest_kept
  pub skips : count.skips ≡ min (skips counters) greatest_kept
  pub changed : count.changed ≡ last_step_changed counters
