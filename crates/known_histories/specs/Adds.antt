-- The history adds: its tables, its events, and the expected results.
use Rattle.std.specs.Prelude.{List, [], codes, ◌∷◌}
use Rattle.sig_types.specs.declared.frame.Mode.TheVariants.{Coord}
use Rattle.sig_tables.specs.declared.tables.Tables.{Tables}
use Rattle.sig_tables.specs.declared.cells.Cell.TheVariants.{Unit as UnitCell}
use Rattle.sig_tables.specs.Cells.{Number}
use Rattle.sig_tables.specs.Putting.{with_cells}
use Rattle.sig_tables.specs.Past.{History}
use Rattle.sig_tables.specs.Standard.{std8}
use Rattle.known_histories.specs.Timeline.{Step, ticks, told_in_order}
use Rattle.known_histories.specs.HistoryTold.{HistoryTold, line}

-- the opening tables of the cabinet
abbrev pub adds_tables : Tables
adds_tables =
    with_cells std8 (
    (UnitCell 1, Number 3) ∷ (UnitCell 3, Number 30) ∷ []
    )

-- the events of the cabinet, in order
abbrev pub adds_timeline : List Step
adds_timeline =
    []

-- the history: these events, and the ticks after the last one
abbrev pub adds_history : History
adds_history = record { tables = adds_tables; command = 1; clock = 390; events = ticks 1100 (told_in_order adds_timeline []) }

-- the expected results, which an independent program computed; newest line first
abbrev pub adds_told : HistoryTold
adds_told = record {
  command = 1;
  clock = 1490;
  version = 0;
  requests = 0 ∷ 0 ∷ 0 ∷ 0 ∷ 0 ∷ 0 ∷ 0 ∷ 0 ∷ 0 ∷ 0 ∷ [];
  vehicle = [];
  pedestrian = [];
  sums = record { counter = 408660; target = 477870; command = 1100; clock = 1034550; active = 0 };
  lines =
      line 990 (codes "RGRRRGRRRRRRRRRR") (codes "DDDDDDDDDDDDDDDD") (Coord 1) 0 480 0
      ∷ line 60 (codes "RGRRRGRRRRRRRRRR") (codes "DDDDDDDDDDDDDDDD") (Coord 1) 0 450 0
      ∷ [];
}
