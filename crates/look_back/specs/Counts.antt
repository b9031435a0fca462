-- What is stored of the counters since the last pickup.
use Rattle.std.specs.Prelude.{ℕ, ◌≡◌, List, []}
use Rattle.sig_types.specs.declared.frame.Mode.{Mode}
use Rattle.sig_types.specs.declared.frame.Mode.TheVariants.{Coord}
use Rattle.sig_tables.specs.Past.{Moment}
use Rattle.sig_tables.specs.Looking.{last_frame}
use Rattle.sig_tables.specs.Counters.{counters_since}
use Rattle.coord_count.specs.CountStands.{CountStands}
use Rattle.look_back.specs.declared.counting.Counting.{Counting}

-- the counters of the last frames in a row in Coord of the pattern of this mode, with this version; none if the mode
-- isn't Coord
abbrev pub counters_in : Mode → ℕ → List Moment → List ℕ
counters_in (Coord n) version past = counters_since n version past
counters_in _ version past = []

-- the stored values represent the counters up to the last frame
pub record CountingStands (c : Counting) (past : List Moment) : Type 0 where
  pub mode : c.mode ≡ (last_frame past).mode
  pub version : c.version ≡ (last_frame past).version
  pub count : CountStands c.count (counters_in c.mode c.version past)
