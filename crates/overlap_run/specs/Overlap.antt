-- What an overlap shows: a right-turn arrow that is green with any of several parent phases. It depends only on the
-- ticks at which a parent is green. Lists by tick have the newest first, and the oldest is that of tick 0.
use Rattle.std.specs.Prelude.{ℕ, zero, suc, ◌+◌, ◌==◌, Bool, true, false, if◌then◌else◌, List, [], ◌∷◌}
use Rattle.sig_types.specs.declared.frame.Colour.{Colour}
use Rattle.sig_types.specs.declared.frame.Colour.TheVariants.{Green, Yellow, Clear, Red}
use Rattle.sig_types.specs.Colour.{same_colour}
use Rattle.overlap_run.specs.declared.overlap.Timing.{Timing}

-- the times of an overlap, in ticks
abbrev pub timed : ℕ → ℕ → ℕ → Timing
timed trail yellow red = record { trail = trail; yellow = yellow; red = red }

-- a parent is green at the newest of these ticks
abbrev pub is_green : List Bool → Bool
is_green [] = false
is_green (green ∷ before) = green

-- a parent is green at the newest of these ticks, or at one of the `n` ticks before it
abbrev pub has_trail : ℕ → List Bool → Bool
has_trail n [] = false
has_trail zero (green ∷ before) = green
has_trail (suc n) (green ∷ before) = if green then true else has_trail n before

-- how many of the newest ticks in a row show this colour
abbrev pub run : Colour → List Colour → ℕ
run colour [] = 0
run colour (shown ∷ past) = if same_colour shown colour then run colour past + 1 else 0

-- what the overlap shows at the newest of these ticks, by what it showed before. At tick 0 it is red. Red turns green
-- when a parent is green at this tick. Green turns yellow when no parent is green at this tick or at one of the
-- `trail` ticks before it. Yellow and red clearance last for their times; a red clearance of 0 ticks is left out.
-- Then the overlap is red for at least one tick
abbrev pub shown_after : Timing → List Bool → List Colour → Colour
shown_after t greens [] = Red
shown_after t greens (Red ∷ past) = if is_green greens then Green else Red
shown_after t greens (Green ∷ past) = if has_trail t.trail greens then Green else Yellow
shown_after t greens (Yellow ∷ past) =
    if run Yellow (Yellow ∷ past) == t.yellow then (if t.red == 0 then Red else Clear) else Yellow
shown_after t greens (Clear ∷ past) = if run Clear (Clear ∷ past) == t.red then Red else Clear

-- the colours of the overlap with one more tick
abbrev pub with_tick : Timing → List Bool → List Colour → List Colour
with_tick t greens past = shown_after t greens past ∷ past

-- the colours of the overlap at these ticks
abbrev pub colours : Timing → List Bool → List Colour
colours t [] = []
colours t (green ∷ before) = with_tick t (green ∷ before) (colours t before)

-- the newest of these colours; red if there are none
abbrev pub last_colour : List Colour → Colour
last_colour [] = Red
last_colour (shown ∷ past) = shown

-- whether a parent is green at each of the ticks up to this one
abbrev pub greens_to : (ℕ → Bool) → ℕ → List Bool
greens_to shows zero = shows 0 ∷ []
greens_to shows (suc n) = shows (suc n) ∷ greens_to shows n

-- what the overlap shows at a tick; `shows` says at which ticks a parent is green
abbrev pub overlap_at : Timing → (ℕ → Bool) → ℕ → Colour
overlap_at t shows tick = last_colour (colours t (greens_to shows tick))
