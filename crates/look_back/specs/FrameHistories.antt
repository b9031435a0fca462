-- A frame history represents all that was seen of a cabinet.
use Rattle.std.specs.Prelude.{List}
use Rattle.sig_tables.specs.Past.{Moment}
use Rattle.look_back.specs.declared.frame_history.FrameHistory.{FrameHistory}
use Rattle.look_back.specs.WindowStands.{WindowStands}
use Rattle.look_back.specs.Latching.{LatchedStands}
use Rattle.look_back.specs.LongCounts.{LongCountsStands}
use Rattle.look_back.specs.Counts.{CountingStands}

-- the window, the latched times, the long counts and the counters represent these moments
pub record LooksOver (l : FrameHistory) (past : List Moment) : Type 0 where
  pub window : WindowStands l.window past
  pub latched : LatchedStands l.latched past
  pub long_counts : LongCountsStands l.long_counts past
  pub counting : CountingStands l.counting past
