-- What a frame shows of a phase.
use Rattle.std.specs.Prelude.{ℕ, ◌||◌, Bool, List}
use Rattle.sig_types.specs.declared.frame.Frame.{Frame}
use Rattle.sig_types.specs.declared.frame.Colour.{Colour}
use Rattle.sig_types.specs.declared.frame.Colour.TheVariants.{Yellow, Clear}
use Rattle.sig_types.specs.declared.frame.Ped.TheVariants.{Walk, Flash}
use Rattle.sig_types.specs.Colour.{same_colour, same_signal, colour_in, signal_of}

-- phase p is in Yellow or red clearance
abbrev pub is_clearing : List Colour → ℕ → Bool
is_clearing veh p = same_colour (colour_in veh p) Yellow || same_colour (colour_in veh p) Clear

-- phase p shows Walk or Flash
abbrev pub is_signalling : Frame → ℕ → Bool
is_signalling f p = same_signal (signal_of f p) Walk || same_signal (signal_of f p) Flash
