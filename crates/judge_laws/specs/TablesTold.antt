-- The tables of each cabinet and version according to a log: each accepted download writes its cells over the tables
-- before it.
use Rattle.std.specs.Prelude.{ℕ, ◌+◌, ◌==◌, ◌&&◌, if◌then◌else◌, List, [], ◌∷◌, Option, Some, None, Ok, reverse, unwrap_or}
use Rattle.sig_tables.specs.declared.cells.Cell.{Cell}
use Rattle.sig_tables.specs.declared.tables.Tables.{Tables}
use Rattle.sig_tables.specs.Cells.{Content}
use Rattle.sig_tables.specs.Putting.{with_cells}
use Rattle.trace_text.specs.declared.lines.Line.{Line}
use Rattle.trace_text.specs.declared.lines.Line.TheVariants.{L}
use Rattle.safety_laws.specs.Whole.{downloads}

-- the tables after a download of these cells; unknown if the cells or the tables before it are unknown
abbrev pub loaded : Option (List (Cell × Content)) → Option Tables → Option Tables
loaded (Some cells) (Some t) = Some (with_cells t cells)
loaded _ _ = None

-- the tables in force at a cabinet after these lines, which are given newest first. `load` gives the cells of the
-- download with a number
abbrev pub tables_told : (ℕ → Option (List (Cell × Content))) → Tables → ℕ → List Line → Option Tables
tables_told load opening cab [] = Some opening
tables_told load opening cab (L c id (Ok version) ∷ before) =
    if c == cab then loaded (load id) (tables_told load opening cab before) else tables_told load opening cab before
tables_told load opening cab (_ ∷ before) = tables_told load opening cab before

-- the tables of a version at a cabinet: those after the download that made it, or the opening tables for version 0;
-- unknown if there is no such version
abbrev pub version_told : (ℕ → Option (List (Cell × Content))) → Tables → ℕ → List Line → ℕ → Option Tables
version_told load opening cab [] version = if version == 0 then Some opening else None
version_told load opening cab (L c id (Ok made) ∷ before) version =
    if c == cab && version == downloads cab before + 1
    then loaded (load id) (tables_told load opening cab before) else version_told load opening cab before version
version_told load opening cab (_ ∷ before) version = version_told load opening cab before version

-- the tables of each cabinet and version according to a log. The opening tables replace unknown ones, so nothing may be
-- judged by them
abbrev pub tables_by : (ℕ → ℕ → Option (List (Cell × Content))) → (ℕ → Tables) → List Line → ℕ → ℕ → Tables
tables_by load opening lines cab version = unwrap_or (version_told (load cab) (opening cab) cab (reverse lines) version) (opening cab)
