-- The history gains_often: its tables, its events, and the expected results.
use Rattle.std.specs.Prelude.{List, [], codes, ◌∷◌, true}
use Rattle.sig_types.specs.declared.frame.Field.TheVariants.{Veh}
use Rattle.sig_types.specs.declared.frame.Mode.TheVariants.{Coord}
use Rattle.sig_tables.specs.declared.tables.Tables.{Tables}
use Rattle.sig_tables.specs.declared.cells.Cell.TheVariants.{Unit as UnitCell}
use Rattle.sig_tables.specs.Cells.{Number}
use Rattle.sig_tables.specs.Putting.{with_cells}
use Rattle.sig_tables.specs.Past.{Input, SetDrift, History}
use Rattle.sig_tables.specs.Standard.{std8}
use Rattle.known_histories.specs.Timeline.{Step, ticks, told_in_order, after}
use Rattle.known_histories.specs.HistoryTold.{HistoryTold, line}

-- the opening tables of the cabinet
abbrev pub gains_often_tables : Tables
gains_often_tables =
    with_cells std8 (
    (UnitCell 1, Number 3) ∷ (UnitCell 8, Number 2) ∷ []
    )

-- the events of the cabinet, in order
abbrev pub gains_often_timeline : List Step
gains_often_timeline =
    after 0 (SetDrift 7 0) ∷ after 199 (Input (Veh 4 true)) ∷ []

-- the history: these events, and the ticks after the last one
abbrev pub gains_often_history : History
gains_often_history = record { tables = gains_often_tables; command = 1; clock = 863700; events = ticks 301 (told_in_order gains_often_timeline []) }

-- the expected results, which an independent program computed; newest line first
abbrev pub gains_often_told : HistoryTold
gains_often_told = record {
  command = 1;
  clock = 271;
  version = 0;
  requests = 0 ∷ 0 ∷ 0 ∷ 0 ∷ 0 ∷ 0 ∷ 0 ∷ 0 ∷ 0 ∷ 0 ∷ [];
  vehicle = [];
  pedestrian = [];
  sums = record { counter = 109140; target = 116676; command = 500; clock = 226360929; active = 0 };
  lines =
      line 330 (codes "RRRGRRRGRRRRRRRR") (codes "DDDDDDDDDDDDDDDD") (Coord 1) 300 322 0
      ∷ line 315 (codes "RCRRRCRRRRRRRRRR") (codes "DDDDDDDDDDDDDDDD") (Coord 1) 285 305 0
      ∷ line 275 (codes "RYRRRYRRRRRRRRRR") (codes "DDDDDDDDDDDDDDDD") (Coord 1) 245 259 0
      ∷ line 60 (codes "RGRRRGRRRRRRRRRR") (codes "DDDDDDDDDDDDDDDD") (Coord 1) 0 13 0
      ∷ [];
}
