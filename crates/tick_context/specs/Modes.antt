-- Tests of the mode.
use Rattle.std.specs.Prelude.{Bool, true, false}
use Rattle.sig_types.specs.declared.frame.Mode.{Mode}
use Rattle.sig_types.specs.declared.frame.Mode.TheVariants.{Free, Seek, Coord, Flash}

-- the mode is Coord
abbrev pub is_coord : Mode → Bool
is_coord (Coord n) = true
is_coord mode = false

-- the mode is Seek or Coord
abbrev pub has_pattern : Mode → Bool
has_pattern (Seek n) = true
has_pattern (Coord n) = true
has_pattern mode = false

-- the mode is Free
abbrev pub is_free : Mode → Bool
is_free Free = true
is_free mode = false

-- the mode is flash
abbrev pub is_flash : Mode → Bool
is_flash Flash = true
is_flash mode = false
