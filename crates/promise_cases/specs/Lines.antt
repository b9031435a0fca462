-- Lines of cabinet 1 with one wrong version.
use Rattle.std.specs.Prelude.{ℕ, List, [], ◌∷◌, replicate, Ok}
use Rattle.sig_types.specs.declared.frame.Colour.TheVariants.{Red}
use Rattle.sig_types.specs.declared.frame.Ped.TheVariants.{Dont}
use Rattle.sig_types.specs.declared.frame.Mode.TheVariants.{Free}
use Rattle.trace_text.specs.declared.lines.Line.{Line}
use Rattle.trace_text.specs.declared.lines.Line.TheVariants.{F, L}

-- the F line of cabinet 1 at a tick with this version
abbrev pub frame_line : ℕ → ℕ → Line
frame_line tick version = F 1 tick (replicate 16 Red) (replicate 16 Dont) Free 0 0 version

-- an F line has version 1 before the line of the download
abbrev pub early_version : List Line
early_version = frame_line 0 0 ∷ frame_line 9 1 ∷ L 1 1 (Ok 1) ∷ []

-- an F line has version 0 after the line of the download
abbrev pub old_version : List Line
old_version = frame_line 0 0 ∷ L 1 1 (Ok 1) ∷ frame_line 9 0 ∷ []

-- the first download has version 2
abbrev pub skipped_version : List Line
skipped_version = frame_line 0 0 ∷ L 1 1 (Ok 2) ∷ []

-- an F line has version 1, although only cabinet 2 had a download
abbrev pub version_of_another : List Line
version_of_another = frame_line 0 0 ∷ L 2 1 (Ok 1) ∷ frame_line 9 1 ∷ []
