-- The ranges of the numbers in tables in which each cell holds an allowed value.
use Rattle.std.specs.Prelude.{ℕ, ◌≤◌, length}
use Rattle.sig_tables.specs.declared.tables.PhaseTimes.{PhaseTimes}
use Rattle.sig_tables.specs.declared.tables.Pattern.{Pattern}
use Rattle.sig_tables.specs.declared.tables.SplitEntry.{SplitEntry}
use Rattle.sig_tables.specs.declared.tables.Preempt.{Preempt}
use Rattle.sig_tables.specs.declared.tables.Corrections.{Corrections}
use Rattle.sig_tables.specs.declared.tables.Tables.{Tables}
use Rattle.sig_tables.specs.Tables.{listed, row, order_of}
use Rattle.sig_tables.specs.Cells.{pattern_of, preempt_of, entry_of}

-- the ranges in the row of a phase, except for its columns of volume density
pub record PhaseInRange (r : PhaseTimes) : Type 0 where
  pub walk : r.walk ≤ 255
  pub pedestrian_clear : r.pedestrian_clear ≤ 255
  pub minimum_green : r.minimum_green ≤ 255
  pub passage : r.passage ≤ 255
  pub maximum : r.maximum ≤ 255
  pub second_maximum : r.second_maximum ≤ 255
  pub yellow_change : r.yellow_change ≤ 255
  pub red_clear : r.red_clear ≤ 255
  pub red_revert : r.red_revert ≤ 255
  pub least_startup : 1 ≤ r.startup
  pub startup : r.startup ≤ 6
  pub options : r.options ≤ 65535
  pub ring : r.ring ≤ 255
  pub concurrency : length (listed r.concurrency) ≤ 16

-- the ranges in the entry of a split: its mode is 1 to 7, and 1 means coordinated
pub record EntryInRange (e : SplitEntry) : Type 0 where
  pub time : e.time ≤ 255
  pub least_mode : 1 ≤ e.mode
  pub mode : e.mode ≤ 7
  pub coordinated : e.coordinated ≤ 1

-- the ranges in the row of a pattern
pub record PatternInRange (r : Pattern) : Type 0 where
  pub cycle : r.cycle ≤ 255
  pub offset : r.offset ≤ 255
  pub split : r.split ≤ 255
  pub sequence : r.sequence ≤ 255

-- the ranges in the row of a preempt
pub record PreemptInRange (r : Preempt) : Type 0 where
  pub delay : r.delay ≤ 600
  pub minimum_duration : r.minimum_duration ≤ 65535
  pub minimum_green : r.minimum_green ≤ 255
  pub minimum_walk : r.minimum_walk ≤ 255
  pub enter_pedestrian_clear : r.enter_pedestrian_clear ≤ 255
  pub track_green : r.track_green ≤ 255
  pub dwell_green : r.dwell_green ≤ 255
  pub maximum_presence : r.maximum_presence ≤ 65535
  pub track_phases : length (listed r.track_phases) ≤ 16
  pub dwell_phases : length (listed r.dwell_phases) ≤ 16
  pub dwell_pedestrians : length (listed r.dwell_pedestrians) ≤ 16
  pub exit_phases : length (listed r.exit_phases) ≤ 16

-- the ranges in the unit: the correction mode is 1 to 4, the force mode and the offset reference are 1 or 2
pub record UnitInRange (u : Corrections) : Type 0 where
  pub least_mode : 1 ≤ u.mode
  pub mode : u.mode ≤ 4
  pub dwell : u.dwell ≤ 2550
  pub add : u.add ≤ 2550
  pub subtract : u.subtract ≤ 2550
  pub backup : u.backup ≤ 65535
  pub extension : u.extension ≤ 2550
  pub least_force_mode : 1 ≤ u.force_mode
  pub force_mode : u.force_mode ≤ 2
  pub least_reference : 1 ≤ u.reference
  pub reference : u.reference ≤ 2

-- all rows of the tables are in range
pub record InRange (t : Tables) : Type 0 where
  pub phases : (p : ℕ) → 1 ≤ p → p ≤ 16 → PhaseInRange (row t p)
  pub sequences : (s r : ℕ) → 1 ≤ s → s ≤ 16 → 1 ≤ r → r ≤ 2 → length (order_of t s r) ≤ 16
  pub splits : (s p : ℕ) → 1 ≤ s → s ≤ 32 → 1 ≤ p → p ≤ 16 → EntryInRange (entry_of t s p)
  pub patterns : (n : ℕ) → 1 ≤ n → n ≤ 48 → PatternInRange (pattern_of t n)
  pub preempts : (i : ℕ) → 1 ≤ i → i ≤ 8 → PreemptInRange (preempt_of t i)
  pub unit : UnitInRange t.unit
