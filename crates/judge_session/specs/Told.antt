-- The tables of each cabinet, by the scenario and the lines of a log. Lists of lines have the newest line first.
use Rattle.std.specs.Prelude.{ℕ, ◌-◌, ◌==◌, ◌&&◌, nat_lt, nat_le, if◌then◌else◌, Bool, is_some, List, length, Option, Some, None, slice_get, unwrap_or, option_map}
use Rattle.sig_tables.specs.declared.cells.Cell.{Cell}
use Rattle.sig_tables.specs.declared.tables.Tables.{Tables}
use Rattle.sig_tables.specs.Cells.{Content}
use Rattle.sig_tables.specs.Standard.{std8}
use Rattle.trace_text.specs.declared.lines.Line.{Line}
use Rattle.scenario_data.specs.Content.{CabinetContent, ScenarioContent}
use Rattle.scenario_data.specs.Opening.{opening_tables}
use Rattle.judge_laws.specs.TablesTold.{tables_told, version_told}
use Rattle.master_load.specs.Downloads.{loads_of}

-- the scenario has a cabinet with this number, counted from 1
abbrev pub has_cabinet : ScenarioContent → ℕ → Bool
has_cabinet s cab = nat_lt 0 cab && nat_le cab (length s.cabinets)

-- the opening tables of a cabinet; those of std8 if there is no such cabinet
abbrev pub opening_or : Option CabinetContent → Tables
opening_or None = std8
opening_or (Some c) = opening_tables c

abbrev pub opening_at : ScenarioContent → ℕ → Tables
opening_at s cab = opening_or (slice_get s.cabinets (cab - 1))

-- the cells of a cabinet's download with this number, counted from 1; none if the scenario doesn't have it
abbrev pub load_told : ScenarioContent → ℕ → ℕ → Option (List (Cell × Content))
load_told s cab id = if id == 0 then None else option_map (λ l. l.cells) (slice_get (loads_of cab s.loads) (id - 1))

-- the tables in force at a cabinet after these lines; unknown after an accepted download that the scenario doesn't have
abbrev pub in_force_told : ScenarioContent → ℕ → List Line → Option Tables
in_force_told s cab before = tables_told (load_told s cab) (opening_at s cab) cab before

abbrev pub is_known : ScenarioContent → ℕ → List Line → Bool
is_known s cab before = is_some (in_force_told s cab before)

-- the tables of each cabinet and version after these lines. The opening tables replace unknown ones, and nothing is
-- judged by them
abbrev pub tables_before : ScenarioContent → List Line → ℕ → ℕ → Tables
tables_before s before cab version =
    unwrap_or (version_told (load_told s cab) (opening_at s cab) cab before version) (opening_at s cab)
