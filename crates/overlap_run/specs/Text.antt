-- The text of an overlap: one line for each change of its colour, the first of them for tick 0, and a last line with
-- the number of ticks.
use Rattle.std.specs.Prelude.{ℕ, zero, suc, Bool, if◌then◌else◌, List, [], ◌∷◌, ◌++◌, codes, decimal}
use Rattle.sig_types.specs.declared.frame.Colour.{Colour}
use Rattle.sig_types.specs.Colour.{same_colour}
use Rattle.trace_text.specs.Texts.{colour_letter}
use Rattle.trace_text.specs.Words.{line_of}
use Rattle.overlap_run.specs.declared.overlap.Timing.{Timing}
use Rattle.overlap_run.specs.Overlap.{overlap_at}

-- the line of a change: the tick, and the colour from this tick on
unfoldable pub change_line : ℕ → Colour → List ℕ
change_line tick colour = line_of (codes "O" ∷ decimal tick ∷ (colour_letter colour ∷ []) ∷ [])

-- the line of a tick, if its colour differs from the colour at the tick before
abbrev pub line_where : Colour → ℕ → Colour → List ℕ
line_where before tick colour = if same_colour before colour then [] else change_line tick colour

-- the lines of the changes up to a tick, if the overlap shows these colours
abbrev pub changes_to : (ℕ → Colour) → ℕ → List ℕ
changes_to shown zero = change_line 0 (shown 0)
changes_to shown (suc n) = changes_to shown n ++ line_where (shown n) (suc n) (shown (suc n))

-- the last line: the number of ticks
unfoldable pub end_line : ℕ → List ℕ
end_line ticks = line_of (codes "Z" ∷ decimal ticks ∷ [])

-- the text of an overlap over this many ticks; `shows` says at which ticks a parent is green
abbrev pub overlap_text : Timing → (ℕ → Bool) → ℕ → List ℕ
overlap_text t shows ticks = changes_to (overlap_at t shows) ticks ++ end_line ticks
