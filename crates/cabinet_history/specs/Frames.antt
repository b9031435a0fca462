-- Which displays have a line in a trace, by comparison with the display before.
use Rattle.std.specs.Prelude.{ℕ, ◌||◌, not, Bool, if◌then◌else◌, List, [], ◌∷◌, length}
use Rattle.sig_types.specs.declared.frame.Frame.{Frame}
use Rattle.sig_types.specs.Colour.{shows_same}
use Rattle.sig_tables.specs.Walking.{is_local_zero}
use Rattle.sig_tables.specs.Past.{History}
use Rattle.sig_tables.specs.Decide.{decide, frames, last_frame_of}

-- the display has a line: it differs from the display before, or it is at local zero
abbrev pub has_line : Frame → Frame → Bool
has_line last next = not (shows_same last next) || is_local_zero next.mode next.counter last

-- the display of the next tick with the tick's number, if it has a line. The display before any tick has number 0
abbrev pub tick_written : History → List (ℕ × Frame)
tick_written h = if has_line (last_frame_of h) (decide h) then (length (frames h), decide h) ∷ [] else []
