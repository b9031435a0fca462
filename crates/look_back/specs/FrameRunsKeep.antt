-- What the runs store of all moments that were added.
use Rattle.std.specs.Prelude.{◌≡◌, ◌≤◌, ◌⊎◌, List, [], ◌∷◌}
use Rattle.sig_tables.specs.Past.{Moment}
use Rattle.look_back.specs.declared.sample.Sample.{Sample}
use Rattle.look_back.specs.declared.frame_runs.FrameRuns.{FrameRuns}
use Rattle.look_back.specs.Spread.{spread, EachLasts, TellLast}

-- the sample of the last frame
abbrev pub newest_of : FrameRuns → Sample
newest_of s = s.newest.sample

-- the runs describe the last 4,096 moments. There is room for 4,096 runs, and each run has a frame unless no moment was
-- added
pub record FrameRunsKeep (s : FrameRuns) (past : List Moment) : Type 0 where
  pub tells : TellLast 4096 (spread (s.newest ∷ s.older.items)) past
  pub newest : (1 ≤ s.newest.ticks) ⊎ (s.older.items ≡ [])
  pub older : EachLasts s.older.items
  pub room : s.older.capacity ≡ 4096
