-- What the mode of a tick decides: the pattern in effect, the preempt that is served, and the sequence.
use Rattle.std.specs.Prelude.{ℕ, Option, Some, None}
use Rattle.sig_types.specs.declared.frame.Mode.{Mode}
use Rattle.sig_types.specs.declared.frame.Mode.TheVariants.{Seek, Coord, Entry, Track, Dwell}
pub use Rattle.sig_types.specs.Colour.{same_mode}
use Rattle.sig_tables.specs.declared.tables.Tables.{Tables}
use Rattle.sig_tables.specs.Cells.{pattern_of}

-- the pattern in effect for the calls and the rings at a tick of this mode; only Coord has one. The mode is that before
-- the colours are known, so at the tick of a pickup no pattern is in effect yet
abbrev pub bound : Mode → Option ℕ
bound (Coord n) = Some n
bound _ = None

-- the preempt that is served in this mode, or 0
abbrev pub stage_of : Mode → ℕ
stage_of (Entry i) = i
stage_of (Track i) = i
stage_of (Dwell i) = i
stage_of _ = 0

-- the sequence in force: that of the pattern in Seek and Coord, otherwise sequence 1
abbrev pub sequence_in : Tables → Mode → ℕ
sequence_in t (Seek n) = (pattern_of t n).sequence
sequence_in t (Coord n) = (pattern_of t n).sequence
sequence_in t _ = 1
