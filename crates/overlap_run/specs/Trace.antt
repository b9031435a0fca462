-- An overlap at a cabinet of a trace, by the F lines of the cabinet and by its tables.
use Rattle.std.specs.Prelude.{ℕ, ◌+◌, ◌≡◌, ◌≤◌, Bool, if◌then◌else◌, List, [], ◌∷◌, ◌++◌, get_or, length}
use Rattle.sig_types.specs.declared.frame.Frame.{Frame}
use Rattle.sig_tables.specs.declared.tables.Tables.{Tables}
use Rattle.trace_text.specs.declared.lines.Line.{Line}
use Rattle.safety_laws.specs.Safe.{Indications, Safe, intersection_of}
use Rattle.safety_laws.specs.Written.{shown_by}
use Rattle.safety_laws.specs.Whole.{Whole, downloads}
use Rattle.overlap_run.specs.declared.overlap.Timing.{Timing}
use Rattle.overlap_run.specs.Text.{overlap_text}
use Rattle.overlap_run.specs.Street.{parent_green}

-- what these displays show, each with the number of its tick
abbrev pub frames_told : List (ℕ × Frame) → List (ℕ × Indications)
frames_told [] = []
frames_told (f ∷ frames) = (f.0, shown_by f.1) ∷ frames_told frames

-- the displays that have a line by this rule, each with the number of its tick, the oldest first. They are chosen
-- from all displays, which have the newest first; the oldest is that of tick 0
abbrev pub frames_written : (Frame → Frame → Bool) → List Frame → List (ℕ × Frame)
frames_written has_line [] = []
frames_written has_line (f ∷ []) = (0, f) ∷ []
frames_written has_line (g ∷ f ∷ before) =
    frames_written has_line (f ∷ before) ++ (if has_line f g then (length (f ∷ before), g) ∷ [] else [])

-- the list has the tables of each version up to `last`, in order
pub record AreByVersion (by_version : List Tables) (tables : ℕ → Tables) (last : ℕ) : Type 0 where
  pub many : length by_version ≡ last + 1
  pub each : (v : ℕ) (d : Tables) → v ≤ last → get_or by_version v d ≡ tables v

-- what these lines of a trace show of a cabinet: its street is safe with the tables of each version, its versions are
-- whole, and `by_version` has the tables of its versions
pub record IsToldOf (cab : ℕ) (tables : ℕ → Tables) (lines : List Line) (by_version : List Tables) : Type 0 where
  pub safe : Safe (intersection_of cab tables lines)
  pub whole : Whole cab lines
  pub versions : AreByVersion by_version tables (downloads cab lines)

-- the text of an overlap at a cabinet, by the F lines of the cabinet
abbrev pub text_of : Timing → List ℕ → ℕ → (ℕ → Tables) → List Line → ℕ → List ℕ
text_of t parents cab tables lines ticks = overlap_text t (parent_green (intersection_of cab tables lines) parents) ticks
