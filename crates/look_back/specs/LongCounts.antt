-- The long counts are what looking back over the moments gives.
use Rattle.std.specs.Prelude.{ℕ, ◌≡◌, ◌<◌, ◌≤◌, ◌-◌, ◌==◌, List, get_or}
use Rattle.sig_types.specs.Phases.{is_in}
use Rattle.sig_tables.specs.Past.{Moment}
use Rattle.sig_tables.specs.Looking.{last_frame, last_on, latest_on}
use Rattle.sig_tables.specs.Modes.{stage_of}
use Rattle.look_back.specs.declared.long_counts.LongCounts.{LongCounts}
use Rattle.look_back.specs.Rows.{RowStands, no_row}

-- the preempt that the last frame serves, and for how many frames in a row; for how many ticks in a row each preempt
-- input was on; the phases that were on last
pub record LongCountsStands (f : LongCounts) (past : List Moment) : Type 0 where
  pub stage : f.stage ≡ stage_of (last_frame past).mode
  pub stages : RowStands f.stages (λ m. stage_of m.frame.mode == f.stage) past
  pub inputs : (i : ℕ) → 0 < i → i ≤ 8 → RowStands (get_or f.inputs (i - 1) no_row) (λ m. is_in m.preempts i) past
  pub first : get_or f.last_on 0 0 ≡ last_on 1 past
  pub second : get_or f.last_on 1 0 ≡ last_on 2 past
  pub latest : f.latest_on ≡ latest_on past
