-- The text of each kind of word in a line.
use Rattle.std.specs.Prelude.{ℕ, List, ◌++◌, map, codes, decimal, Option, Some, None}
use Rattle.hex.specs.Hex.{encode_lower}
use Rattle.arrayvec.specs.ArrayVec.{ArrayVec}
use Rattle.sig_types.specs.declared.frame.Colour.{Colour}
use Rattle.sig_types.specs.declared.frame.Colour.TheVariants.{Green, Yellow, Clear, Red}
use Rattle.sig_types.specs.declared.frame.Ped.{Ped}
use Rattle.sig_types.specs.declared.frame.Ped.TheVariants.{Walk, Flash, Dont}
use Rattle.sig_types.specs.declared.frame.Mode.{Mode}
use Rattle.sig_types.specs.declared.frame.Mode.TheVariants as mode

-- the letter of a colour: G, Y, C or R
abbrev pub colour_letter : Colour → ℕ
colour_letter Green = 71
colour_letter Yellow = 89
colour_letter Clear = 67
colour_letter Red = 82

-- the letter of a pedestrian signal: W, F or D
abbrev pub signal_letter : Ped → ℕ
signal_letter Walk = 87
signal_letter Flash = 70
signal_letter Dont = 68

-- the letters of the colours of an F line, phase by phase
abbrev pub colours_text : List Colour → List ℕ
colours_text veh = map colour_letter veh

-- the letters of the pedestrian signals of an F line, phase by phase
abbrev pub signals_text : List Ped → List ℕ
signals_text ped = map signal_letter ped

-- the word of a mode: a letter, and the number of its pattern or preempt. For a preempt a last letter gives the stage
abbrev pub mode_text : Mode → List ℕ
mode_text mode.Start = codes "S"
mode_text mode.Free = codes "F"
mode_text (mode.Seek pattern) = codes "K" ++ decimal pattern
mode_text (mode.Coord pattern) = codes "C" ++ decimal pattern
mode_text mode.Ending = codes "E"
mode_text mode.Flash = codes "X"
mode_text (mode.Entry preempt) = codes "P" ++ (decimal preempt ++ codes "e")
mode_text (mode.Track preempt) = codes "P" ++ (decimal preempt ++ codes "t")
mode_text (mode.Dwell preempt) = codes "P" ++ (decimal preempt ++ codes "d")
mode_text (mode.Exit preempt) = codes "P" ++ (decimal preempt ++ codes "x")

-- the word of a run in a journal: the pass, a star, and how many items in a row are of this pass
abbrev pub run_word : ℕ × ℕ → List ℕ
run_word run = decimal run.0 ++ (codes "*" ++ decimal run.1)

-- octets as lower-case hexadecimal digits
abbrev pub octets_text : ArrayVec ℕ → List ℕ
octets_text octets = encode_lower octets.items

-- the word of a reply: its octets, or a dash if there is no reply
abbrev pub reply_text : Option (ArrayVec ℕ) → List ℕ
reply_text None = codes "-"
reply_text (Some octets) = octets_text octets
