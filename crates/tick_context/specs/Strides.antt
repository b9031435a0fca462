-- The number of ticks until a frame has a line in a trace.
use Rattle.std.specs.Prelude.{ℕ, zero, suc, ◌≡◌, ◌<◌, ◌≤◌, ◌||◌, not, Bool, true, false}
use Rattle.sig_types.specs.declared.frame.Frame.{Frame}
use Rattle.sig_types.specs.Colour.{shows_same}
use Rattle.sig_tables.specs.Walking.{is_local_zero}
use Rattle.sig_tables.specs.Past.{History}
use Rattle.sig_tables.specs.Decide.{decide, ticked, last_frame_of}

-- a frame has a line if it shows something else than the frame before, or is a local zero
abbrev pub has_line : Frame → Frame → Bool
has_line last next = not (shows_same last next) || is_local_zero next.mode next.counter last

-- the history with this number of more ticks
abbrev pub ticks_more : ℕ → History → History
ticks_more zero h = h
ticks_more (suc k) h = ticked (ticks_more k h)

-- the tick with this number after a history, counted from 1, gives a frame that has a line
abbrev pub is_told : History → ℕ → Bool
is_told h zero = false
is_told h (suc k) = has_line (last_frame_of (ticks_more k h)) (decide (ticks_more k h))

-- m is the first of the next n ticks whose frame has a line; n if none has
pub record IsStride (h : History) (n m : ℕ) : Type 0 where
  pub some : 1 ≤ m
  pub within : m ≤ n
  pub plain : (k : ℕ) → k < m → is_told h k ≡ false
  pub told : m < n → is_told h m ≡ true
