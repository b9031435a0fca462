-- The history floating_force: its tables, its events, and the expected results.
use Rattle.std.specs.Prelude.{List, [], codes, ◌∷◌, true}
use Rattle.sig_types.specs.declared.frame.Field.TheVariants.{Veh}
use Rattle.sig_types.specs.declared.frame.Mode.TheVariants.{Coord}
use Rattle.sig_tables.specs.declared.tables.Tables.{Tables}
use Rattle.sig_tables.specs.declared.cells.Cell.TheVariants.{Unit as UnitCell}
use Rattle.sig_tables.specs.Cells.{Number}
use Rattle.sig_tables.specs.Putting.{with_cells}
use Rattle.sig_tables.specs.Past.{Input, History}
use Rattle.sig_tables.specs.Standard.{std8}
use Rattle.known_histories.specs.Timeline.{Step, ticks, told_in_order, after}
use Rattle.known_histories.specs.HistoryTold.{HistoryTold, line}

-- the opening tables of the cabinet
abbrev pub floating_force_tables : Tables
floating_force_tables =
    with_cells std8 (
    (UnitCell 7, Number 2) ∷ []
    )

-- the events of the cabinet, in order
abbrev pub floating_force_timeline : List Step
floating_force_timeline =
    after 199 (Input (Veh 4 true)) ∷ []

-- the history: these events, and the ticks after the last one
abbrev pub floating_force_history : History
floating_force_history = record { tables = floating_force_tables; command = 1; clock = 840; events = ticks 501 (told_in_order floating_force_timeline []) }

-- the expected results, which an independent program computed; newest line first
abbrev pub floating_force_told : HistoryTold
floating_force_told = record {
  command = 1;
  clock = 1540;
  version = 0;
  requests = 0 ∷ 0 ∷ 0 ∷ 0 ∷ 0 ∷ 0 ∷ 0 ∷ 0 ∷ 0 ∷ 0 ∷ [];
  vehicle = [];
  pedestrian = [];
  sums = record { counter = 205120; target = 205120; command = 700; clock = 833350; active = 0 };
  lines =
      line 660 (codes "RGRRRGRRRRRRRRRR") (codes "DDDDDDDDDDDDDDDD") (Coord 1) 600 600 0
      ∷ line 645 (codes "RRRCRRRCRRRRRRRR") (codes "DDDDDDDDDDDDDDDD") (Coord 1) 585 585 0
      ∷ line 605 (codes "RRRYRRRYRRRRRRRR") (codes "DDDDDDDDDDDDDDDD") (Coord 1) 545 545 0
      ∷ line 360 (codes "RRRGRRRGRRRRRRRR") (codes "DDDDDDDDDDDDDDDD") (Coord 1) 300 300 0
      ∷ line 345 (codes "RCRRRCRRRRRRRRRR") (codes "DDDDDDDDDDDDDDDD") (Coord 1) 285 285 0
      ∷ line 305 (codes "RYRRRYRRRRRRRRRR") (codes "DDDDDDDDDDDDDDDD") (Coord 1) 245 245 0
      ∷ line 60 (codes "RGRRRGRRRRRRRRRR") (codes "DDDDDDDDDDDDDDDD") (Coord 1) 0 0 0
      ∷ [];
}
