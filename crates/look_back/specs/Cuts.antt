-- Walks and pedestrian clearances, in full or shortened.
use Rattle.std.specs.Prelude.{ℕ, ◌==◌, max, min, nat_le, Bool, if◌then◌else◌, Option, Some, None}
use Rattle.sig_types.specs.declared.frame.Ped.{Ped}
use Rattle.sig_types.specs.declared.frame.Ped.TheVariants.{Flash, Dont}
use Rattle.sig_tables.specs.Lesser.{Lesser, InFull, AtMost, lesser_clear}
use Rattle.look_back.specs.declared.cuts.Cut.{Cut}

-- the limits of a cut; no limits without a cut
abbrev pub lesser_of : Option Cut → Lesser
lesser_of None = InFull
lesser_of (Some cut) = AtMost cut.walk cut.clear

-- a walk of this time is over after this number of frames; a shortened one lasts at least one tick
abbrev pub is_walk_over : Lesser → ℕ → ℕ → Bool
is_walk_over InFull time frames = frames == time
is_walk_over (AtMost walk clear) time frames = nat_le (max 1 (min time walk)) frames

-- a pedestrian clearance of this time is over after this number of frames
abbrev pub is_clearance_over : Lesser → ℕ → ℕ → Bool
is_clearance_over InFull time frames = frames == time
is_clearance_over (AtMost walk clear) time frames = nat_le (min time clear) frames

-- the signal that follows Walk, if pedestrian clearance has this time
abbrev pub after_walk : Lesser → ℕ → Ped
after_walk lesser time = if lesser_clear lesser time == 0 then Dont else Flash
