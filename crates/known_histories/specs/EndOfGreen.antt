-- The history end_of_green: its tables, its events, and the expected results.
use Rattle.std.specs.Prelude.{List, [], codes, ◌∷◌}
use Rattle.sig_types.specs.declared.frame.Mode.TheVariants.{Coord}
use Rattle.sig_tables.specs.declared.tables.Tables.{Tables}
use Rattle.sig_tables.specs.declared.cells.Cell.TheVariants.{Unit as UnitCell}
use Rattle.sig_tables.specs.Cells.{Number}
use Rattle.sig_tables.specs.Putting.{with_cells}
use Rattle.sig_tables.specs.Past.{History}
use Rattle.sig_tables.specs.Standard.{std8}
use Rattle.known_histories.specs.Timeline.{Step, ticks, told_in_order}
use Rattle.known_histories.specs.HistoryTold.{HistoryTold, line}

-- the opening tables of the cabinet
abbrev pub end_of_green_tables : Tables
end_of_green_tables =
    with_cells std8 (
    (UnitCell 8, Number 2) ∷ []
    )

-- the events of the cabinet, in order
abbrev pub end_of_green_timeline : List Step
end_of_green_timeline =
    []

-- the history: these events, and the ticks after the last one
abbrev pub end_of_green_history : History
end_of_green_history = record { tables = end_of_green_tables; command = 1; clock = 840; events = ticks 1100 (told_in_order end_of_green_timeline []) }

-- the expected results, which an independent program computed; newest line first
abbrev pub end_of_green_told : HistoryTold
end_of_green_told = record {
  command = 1;
  clock = 1940;
  version = 0;
  requests = 0 ∷ 0 ∷ 0 ∷ 0 ∷ 0 ∷ 0 ∷ 0 ∷ 0 ∷ 0 ∷ 0 ∷ [];
  vehicle = [];
  pedestrian = [];
  sums = record { counter = 404550; target = 448965; command = 1100; clock = 1529550; active = 0 };
  lines =
      line 1060 (codes "RGRRRGRRRRRRRRRR") (codes "DDDDDDDDDDDDDDDD") (Coord 1) 0 345 0
      ∷ line 60 (codes "RGRRRGRRRRRRRRRR") (codes "DDDDDDDDDDDDDDDD") (Coord 1) 0 245 0
      ∷ [];
}
