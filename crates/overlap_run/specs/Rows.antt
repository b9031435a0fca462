-- One green of a parent, computed by hand: phase 2 of the standard tables under maximum recall is green from tick 60
-- to tick 459.
use Rattle.std.specs.Prelude.{ℕ, nat_le, nat_lt, ◌&&◌, Bool}
use Rattle.sig_types.specs.declared.frame.Colour.{Colour}
use Rattle.overlap_run.specs.Overlap.{timed, overlap_at}

abbrev pub green_once : ℕ → Bool
green_once tick = nat_le 60 tick && nat_lt tick 460

-- an overlap with a trail of 5 ticks, a yellow change of 35 and a red clearance of 10
abbrev pub by_hand : ℕ → Colour
by_hand tick = overlap_at (timed 5 35 10) green_once tick

-- an overlap without a trail and without a red clearance, and with a yellow change of 30 ticks
abbrev pub at_once : ℕ → Colour
at_once tick = overlap_at (timed 0 30 0) green_once tick
