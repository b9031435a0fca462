-- What it means that the versions in a trace are whole: the version in each F line is the number of downloads that were
-- accepted before it.
use Rattle.std.specs.Prelude.{ℕ, ◌+◌, ◌==◌, ◌≡◌, if◌then◌else◌, List, [], ◌∷◌, ◌++◌, Ok}
use Rattle.sig_types.specs.declared.frame.Colour.{Colour}
use Rattle.sig_types.specs.declared.frame.Ped.{Ped}
use Rattle.sig_types.specs.declared.frame.Mode.{Mode}
use Rattle.trace_text.specs.declared.lines.Line.{Line}
use Rattle.trace_text.specs.declared.lines.Line.TheVariants.{F, L}

-- the number of downloads that a cabinet accepts in these lines
abbrev pub downloads : ℕ → List Line → ℕ
downloads cab [] = 0
downloads cab (L c id (Ok version) ∷ lines) = if c == cab then downloads cab lines + 1 else downloads cab lines
downloads cab (_ ∷ lines) = downloads cab lines

-- the version in each F line of a cabinet is the number of downloads that it has accepted so far. The version in the
-- line of an accepted download is their number, this download included
pub record Whole (cab : ℕ) (lines : List Line) : Type 0 where
  pub frames : (before after : List Line) (tick : ℕ) (veh : List Colour) (ped : List Ped) (mode : Mode) (counter target version : ℕ)
      → lines ≡ before ++ F cab tick veh ped mode counter target version ∷ after → version ≡ downloads cab before
  pub loads : (before after : List Line) (id version : ℕ)
      → lines ≡ before ++ L cab id (Ok version) ∷ after → version ≡ downloads cab before + 1
