-- The history switched: its tables, its events, and the expected results.
use Rattle.std.specs.Prelude.{List, [], codes, ◌∷◌, true}
use Rattle.sig_types.specs.declared.frame.Field.TheVariants.{Veh}
use Rattle.sig_types.specs.declared.frame.Mode.TheVariants.{Seek, Coord}
use Rattle.sig_tables.specs.declared.tables.Tables.{Tables}
use Rattle.sig_tables.specs.declared.cells.Cell.TheVariants.{Unit as UnitCell}
use Rattle.sig_tables.specs.Cells.{Number}
use Rattle.sig_tables.specs.Putting.{with_cells}
use Rattle.sig_tables.specs.Past.{Input, Install, History}
use Rattle.sig_tables.specs.Standard.{std8}
use Rattle.known_histories.specs.Timeline.{Step, ticks, told_in_order, after}
use Rattle.known_histories.specs.HistoryTold.{HistoryTold, line}

-- the opening tables of the cabinet
abbrev pub switched_tables : Tables
switched_tables = std8

-- the tables after this download
abbrev pub switched_download_1 : Tables
switched_download_1 =
    with_cells switched_tables (
    (UnitCell 7, Number 2) ∷ []
    )

-- the tables after this download
abbrev pub switched_download_2 : Tables
switched_download_2 =
    with_cells switched_download_1 (
    (UnitCell 8, Number 2) ∷ []
    )

-- the tables after this download
abbrev pub switched_download_3 : Tables
switched_download_3 =
    with_cells switched_download_2 (
    (UnitCell 7, Number 1) ∷ []
    )

-- the tables after this download
abbrev pub switched_download_4 : Tables
switched_download_4 =
    with_cells switched_download_3 (
    (UnitCell 8, Number 1) ∷ []
    )

-- the events of the cabinet, in order
abbrev pub switched_timeline : List Step
switched_timeline =
    after 199 (Input (Veh 4 true)) ∷ after 420 (Install switched_download_1) ∷ after 80 (Install switched_download_2)
    ∷ after 100 (Install switched_download_3) ∷ after 50 (Install switched_download_4) ∷ []

-- the history: these events, and the ticks after the last one
abbrev pub switched_history : History
switched_history = record { tables = switched_tables; command = 1; clock = 840; events = ticks 51 (told_in_order switched_timeline []) }

-- the expected results, which an independent program computed; newest line first
abbrev pub switched_told : HistoryTold
switched_told = record {
  command = 1;
  clock = 1740;
  version = 4;
  requests = 0 ∷ 0 ∷ 0 ∷ 0 ∷ 0 ∷ 0 ∷ 0 ∷ 0 ∷ 0 ∷ 0 ∷ [];
  vehicle = [];
  pedestrian = [];
  sums = record { counter = 160090; target = 268470; command = 900; clock = 1161450; active = 0 };
  lines =
      line 850 (codes "RGRRRGRRRRRRRRRR") (codes "DDDDDDDDDDDDDDDD") (Coord 1) 0 790 4
      ∷ line 800 (codes "RGRRRGRRRRRRRRRR") (codes "DDDDDDDDDDDDDDDD") (Coord 1) 0 85 3
      ∷ line 700 (codes "RGRRRGRRRRRRRRRR") (codes "DDDDDDDDDDDDDDDD") (Coord 1) 0 885 2
      ∷ line 675 (codes "RGRRRGRRRRRRRRRR") (codes "DDDDDDDDDDDDDDDD") (Coord 1) 0 615 1
      ∷ line 660 (codes "RRRCRRRCRRRRRRRR") (codes "DDDDDDDDDDDDDDDD") (Seek 1) 0 600 1
      ∷ line 620 (codes "RRRYRRRYRRRRRRRR") (codes "DDDDDDDDDDDDDDDD") (Seek 1) 0 560 1
      ∷ line 360 (codes "RRRGRRRGRRRRRRRR") (codes "DDDDDDDDDDDDDDDD") (Coord 1) 300 300 0
      ∷ line 345 (codes "RCRRRCRRRRRRRRRR") (codes "DDDDDDDDDDDDDDDD") (Coord 1) 285 285 0
      ∷ line 305 (codes "RYRRRYRRRRRRRRRR") (codes "DDDDDDDDDDDDDDDD") (Coord 1) 245 245 0
      ∷ line 60 (codes "RGRRRGRRRRRRRRRR") (codes "DDDDDDDDDDDDDDDD") (Coord 1) 0 0 0
      ∷ [];
}
