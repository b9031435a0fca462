-- The tables with which a cabinet starts.
use Rattle.sig_tables.specs.declared.tables.Tables.{Tables}
use Rattle.sig_tables.specs.Putting.{with_cells}
use Rattle.sig_tables.specs.Standard.{std8, max8}
use Rattle.scenario_data.specs.declared.scenario.Base.{Base}
use Rattle.scenario_data.specs.declared.scenario.Base.TheVariants.{Std8, Max8}
use Rattle.scenario_data.specs.Content.{CabinetContent}

-- the base tables: std8 or max8
abbrev pub base_tables : Base → Tables
base_tables Std8 = std8
base_tables Max8 = max8

-- the tables with which a cabinet starts: its base tables, with its cells put in, in order
abbrev pub opening_tables : CabinetContent → Tables
opening_tables c = with_cells (base_tables c.base) c.cells
