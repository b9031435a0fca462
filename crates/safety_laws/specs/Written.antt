-- The F lines of a history: one for the frame before any tick, and one for each later frame that has a line.
use Rattle.std.specs.Prelude.{ℕ, ◌+◌, ◌==◌, ◌≡◌, Bool, false, if◌then◌else◌, List, [], ◌∷◌, ◌++◌, length}
use Rattle.sig_types.specs.declared.frame.Frame.{Frame}
use Rattle.sig_tables.specs.declared.tables.Tables.{Tables}
use Rattle.sig_tables.specs.Past.{Event, Install, History}
use Rattle.sig_tables.specs.Decide.{past_of, since_opening}
use Rattle.safety_laws.specs.Safe.{Indications}

-- the display of a frame
abbrev pub shown_by : Frame → Indications
shown_by f = record { colours = f.veh; signals = f.ped; mode = f.mode; version = f.version }

-- a rule that decides from the frame before whether a frame has a line; a frame without a line shows the same as the
-- frame before
abbrev pub TellsChanges : (Frame → Frame → Bool) → Type 0
TellsChanges has_line = (last next : Frame) → has_line last next ≡ false → shown_by next ≡ shown_by last

-- the lines of these frames by such a rule, oldest first. The frames are given newest first; the oldest is that of tick
-- 0, and has a line
abbrev pub written : (Frame → Frame → Bool) → List Frame → List (ℕ × Indications)
written has_line [] = []
written has_line (f ∷ []) = (0, shown_by f) ∷ []
written has_line (g ∷ f ∷ before) =
    written has_line (f ∷ before) ++ (if has_line f g then (length (f ∷ before), shown_by g) ∷ [] else [])

-- the tables of a version: those of the download with this number, counted from 1, otherwise the opening tables
abbrev pub version_tables : Tables → List Event → ℕ → Tables
version_tables opening [] version = opening
version_tables opening (Install t ∷ events) version =
    if version == (past_of opening events).version + 1 then t else version_tables opening events version
version_tables opening (_ ∷ events) version = version_tables opening events version

-- the tables of each version of a history
abbrev pub tables_of : History → ℕ → Tables
tables_of h version = version_tables h.tables (since_opening h) version
