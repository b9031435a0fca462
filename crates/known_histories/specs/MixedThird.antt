-- The history mixed_third: its tables, its events, and the expected results.
use Rattle.std.specs.Prelude.{List, [], codes, ◌∷◌, true, false}
use Rattle.sig_types.specs.declared.frame.Field.TheVariants.{Veh, Ped as Button}
use Rattle.sig_types.specs.declared.frame.Mode.TheVariants.{Start, Free, Seek, Ending, Flash}
use Rattle.sig_tables.specs.declared.tables.Tables.{Tables}
use Rattle.sig_tables.specs.declared.cells.Cell.TheVariants.{Phase, Sequence, Split, Pattern as PatternCell, Unit as UnitCell}
use Rattle.sig_tables.specs.Cells.{Number, Octets}
use Rattle.sig_tables.specs.Putting.{with_cells}
use Rattle.sig_tables.specs.Past.{Input, Install, SetPattern, Ask, History}
use Rattle.sig_tables.specs.Standard.{std8}
use Rattle.known_histories.specs.Timeline.{Step, ticks, told_in_order, after, request}
use Rattle.known_histories.specs.HistoryTold.{HistoryTold, line}

-- the opening tables of the cabinet
abbrev pub mixed_third_tables : Tables
mixed_third_tables =
    with_cells std8 (
    (Phase 1 20, Number 3) ∷ (Phase 1 21, Number 1281) ∷ (Phase 2 20, Number 2) ∷ (Phase 2 21, Number 65)
    ∷ (Phase 4 21, Number 1313) ∷ (Phase 5 4, Number 2) ∷ (Phase 5 5, Number 30) ∷ (Phase 5 6, Number 34)
    ∷ (Phase 5 8, Number 32) ∷ (Phase 5 9, Number 19) ∷ (Phase 5 10, Number 0) ∷ (Phase 5 20, Number 4)
    ∷ (Phase 6 2, Number 0) ∷ (Phase 6 3, Number 0) ∷ (Phase 6 4, Number 6) ∷ (Phase 6 5, Number 19)
    ∷ (Phase 6 6, Number 0) ∷ (Phase 6 8, Number 34) ∷ (Phase 6 9, Number 16) ∷ (Phase 6 20, Number 2)
    ∷ (Phase 6 21, Number 32835) ∷ (Phase 7 5, Number 9) ∷ (Phase 7 6, Number 24) ∷ (Phase 7 8, Number 32)
    ∷ (Phase 7 9, Number 3) ∷ (Phase 7 10, Number 9) ∷ (Sequence 4 1, Octets (4 ∷ 3 ∷ 1 ∷ 2 ∷ []))
    ∷ (Sequence 4 2, Octets (8 ∷ 7 ∷ 5 ∷ 6 ∷ [])) ∷ (Sequence 8 1, Octets (1 ∷ 2 ∷ 3 ∷ 4 ∷ []))
    ∷ (Sequence 8 2, Octets (5 ∷ 6 ∷ 8 ∷ 7 ∷ [])) ∷ (Split 30 1 3, Number 11) ∷ (Split 30 2 3, Number 25)
    ∷ (Split 30 2 4, Number 6) ∷ (Split 30 3 3, Number 11) ∷ (Split 30 4 3, Number 33) ∷ (Split 30 4 5, Number 1)
    ∷ (Split 30 5 3, Number 24) ∷ (Split 30 5 4, Number 6) ∷ (Split 30 6 3, Number 12) ∷ (Split 30 6 4, Number 5)
    ∷ (Split 30 7 3, Number 11) ∷ (Split 30 7 4, Number 4) ∷ (Split 30 8 3, Number 33) ∷ (Split 30 8 5, Number 1)
    ∷ (Split 32 1 3, Number 11) ∷ (Split 32 1 4, Number 5) ∷ (Split 32 2 3, Number 25) ∷ (Split 32 2 4, Number 5)
    ∷ (Split 32 3 3, Number 11) ∷ (Split 32 3 4, Number 5) ∷ (Split 32 4 3, Number 33) ∷ (Split 32 4 5, Number 1)
    ∷ (Split 32 5 3, Number 24) ∷ (Split 32 6 3, Number 12) ∷ (Split 32 6 4, Number 6) ∷ (Split 32 7 3, Number 11)
    ∷ (Split 32 7 4, Number 5) ∷ (Split 32 8 3, Number 33) ∷ (Split 32 8 5, Number 1) ∷ (PatternCell 1 2, Number 80)
    ∷ (PatternCell 1 3, Number 57) ∷ (PatternCell 1 4, Number 32) ∷ (PatternCell 1 5, Number 4)
    ∷ (PatternCell 18 2, Number 80) ∷ (PatternCell 18 3, Number 36) ∷ (PatternCell 18 4, Number 30)
    ∷ (PatternCell 18 5, Number 1) ∷ (UnitCell 2, Number 1420) ∷ (UnitCell 3, Number 259) ∷ (UnitCell 4, Number 55)
    ∷ (UnitCell 5, Number 12) ∷ (UnitCell 6, Number 10) ∷ []
    )

-- the tables after this download
abbrev pub mixed_third_download_1 : Tables
mixed_third_download_1 =
    with_cells mixed_third_tables (
    (Sequence 2 1, Octets (2 ∷ 1 ∷ 3 ∷ 4 ∷ [])) ∷ (Sequence 2 2, Octets (5 ∷ 6 ∷ 8 ∷ 7 ∷ [])) ∷ []
    )

-- the tables after this download
abbrev pub mixed_third_download_2 : Tables
mixed_third_download_2 =
    with_cells mixed_third_download_1 (
    (Phase 1 21, Number 33) ∷ (Phase 6 9, Number 24) ∷ (Phase 8 2, Number 1) ∷ (Phase 8 3, Number 0) ∷ []
    )

-- the tables after this download
abbrev pub mixed_third_download_3 : Tables
mixed_third_download_3 =
    with_cells mixed_third_download_2 (
    (Phase 1 6, Number 29) ∷ (Phase 5 9, Number 11) ∷ (Phase 6 2, Number 1) ∷ (Phase 6 3, Number 3)
    ∷ (Phase 6 21, Number 257) ∷ (Phase 8 10, Number 8) ∷ []
    )

-- the tables after this download
abbrev pub mixed_third_download_4 : Tables
mixed_third_download_4 =
    with_cells mixed_third_download_3 (
    (Phase 8 6, Number 4) ∷ []
    )

-- the events of the cabinet, in order
abbrev pub mixed_third_timeline : List Step
mixed_third_timeline =
    after 3 (Install mixed_third_download_1) ∷ after 31 (Input (Veh 3 false)) ∷ after 22 (Input (Veh 5 false))
    ∷ after 21 (Install mixed_third_download_2) ∷ after 1 (Input (Veh 4 true))
    ∷ after 0 (Install mixed_third_download_3) ∷ after 4 (Input (Veh 3 false)) ∷ after 0 (Input (Veh 2 true))
    ∷ after 5 (Input (Veh 3 true)) ∷ after 3 (Input (Veh 8 true)) ∷ after 28 (Input (Veh 4 false))
    ∷ after 6 (Input (Veh 13 true)) ∷ after 15 (Input (Veh 7 true)) ∷ after 10 (Input (Veh 3 true))
    ∷ after 1 (Input (Veh 1 true)) ∷ after 3 (Input (Button 1)) ∷ after 4 (Input (Veh 2 false))
    ∷ after 3 (Input (Button 5)) ∷ after 4 (SetPattern 255) ∷ after 15 (Input (Veh 8 true))
    ∷ after 19 (Input (Veh 3 true)) ∷ after 1 (Input (Veh 2 false)) ∷ after 14 (Ask (request 2 1 1 5 17 22))
    ∷ after 9 (Input (Veh 1 true)) ∷ after 2 (Ask (request 4 2 2 4 39 195)) ∷ after 2 (Input (Veh 7 false))
    ∷ after 2 (Input (Veh 4 false)) ∷ after 0 (Input (Veh 5 true)) ∷ after 7 (Input (Veh 13 false))
    ∷ after 7 (SetPattern 1) ∷ after 6 (Input (Button 3)) ∷ after 4 (Install mixed_third_download_4)
    ∷ after 19 (Ask (request 3 1 2 8 18 31)) ∷ after 20 (SetPattern 255) ∷ after 7 (Input (Veh 2 false))
    ∷ after 2 (Input (Veh 7 true)) ∷ after 5 (Input (Veh 1 true)) ∷ after 17 (Input (Veh 6 false))
    ∷ after 13 (Input (Veh 7 true)) ∷ after 15 (Input (Veh 6 false)) ∷ after 10 (Input (Button 1))
    ∷ after 2 (Input (Veh 8 true)) ∷ after 12 (Input (Veh 8 false)) ∷ []

-- the history: these events, and the ticks after the last one
abbrev pub mixed_third_history : History
mixed_third_history = record { tables = mixed_third_tables; command = 1; clock = 863607; events = ticks 46 (told_in_order mixed_third_timeline []) }

-- the expected results, which an independent program computed; newest line first
abbrev pub mixed_third_told : HistoryTold
mixed_third_told = record {
  command = 0;
  clock = 27;
  version = 4;
  requests = 0 ∷ 3 ∷ 3 ∷ 3 ∷ 0 ∷ 0 ∷ 0 ∷ 0 ∷ 0 ∷ 0 ∷ [];
  vehicle = 3 ∷ 5 ∷ 7 ∷ 8 ∷ 13 ∷ [];
  pedestrian = [];
  sums = record { counter = 0; target = 48686; command = 50403; clock = 338611350; active = 0 };
  lines =
      line 411 (codes "RRRRRRRRRRRRRRRR") (codes "DDDDDDDDDDDDDDDD") Start 0 0 4
      ∷ line 310 (codes "RRRRRRRRRRRRRRRR") (codes "DDDDDDDDDDDDDDDD") Flash 0 0 4
      ∷ line 295 (codes "RCRRRRRRRRRRRRRR") (codes "DDDDDDDDDDDDDDDD") Ending 0 0 4
      ∷ line 292 (codes "RYRRRRRRRRRRRRRR") (codes "DDDDDDDDDDDDDDDD") Ending 0 0 4
      ∷ line 255 (codes "RYRRRRRRRRRRRRRR") (codes "DDDDDDDDDDDDDDDD") (Seek 1) 0 92 4
      ∷ line 253 (codes "RGRRRRRRRRRRRRRR") (codes "DDDDDDDDDDDDDDDD") (Seek 1) 0 90 4
      ∷ line 243 (codes "RGRRRRRRRRRRRRRR") (codes "DDDDDDDDDDDDDDDD") (Seek 1) 0 80 3
      ∷ line 241 (codes "RGRRRRRRRRRRRRRR") (codes "DDDDDDDDDDDDDDDD") Ending 0 0 3
      ∷ line 217 (codes "RGRRRCRRRRRRRRRR") (codes "DDDDDDDDDDDDDDDD") Ending 0 0 3
      ∷ line 183 (codes "RGRRRYRRRRRRRRRR") (codes "DDDDDDDDDDDDDDDD") Ending 0 0 3
      ∷ line 165 (codes "RGRRRGRRRRRRRRRR") (codes "DDDDDDDDDDDDDDDD") Ending 0 0 3
      ∷ line 163 (codes "RGRRRGRRRRRRRRRR") (codes "DDDDDDDDDDDDDDDD") Free 0 0 3
      ∷ line 155 (codes "RGRRRGRRRRRRRRRR") (codes "DDDDDFDDDDDDDDDD") Free 0 0 3
      ∷ line 145 (codes "CRRRRGRRRRRRRRRR") (codes "DDDDDFDDDDDDDDDD") Free 0 0 3
      ∷ line 133 (codes "YRRRRGRRRRRRRRRR") (codes "DDDDDFDDDDDDDDDD") Free 0 0 3
      ∷ line 123 (codes "YRRRRGRRRRRRRRRR") (codes "DDDDDWDDDDDDDDDD") Free 0 0 3
      ∷ line 120 (codes "YRRRCRRRRRRRRRRR") (codes "DDDDDDDDDDDDDDDD") Free 0 0 3
      ∷ line 112 (codes "YRRRCRRRRRRRRRRR") (codes "DDDDDDDDDDDDDDDD") (Seek 1) 0 749 3
      ∷ line 110 (codes "YRRRYRRRRRRRRRRR") (codes "DDDDDDDDDDDDDDDD") (Seek 1) 0 747 3
      ∷ line 80 (codes "GRRRYRRRRRRRRRRR") (codes "DDDDDDDDDDDDDDDD") (Seek 1) 0 717 3
      ∷ line 79 (codes "GRRRGRRRRRRRRRRR") (codes "DDDDDDDDDDDDDDDD") (Seek 1) 0 716 3
      ∷ line 78 (codes "GRRRGRRRRRRRRRRR") (codes "DDDDDDDDDDDDDDDD") (Seek 1) 0 715 2
      ∷ line 60 (codes "GRRRGRRRRRRRRRRR") (codes "DDDDDDDDDDDDDDDD") (Seek 1) 0 697 1
      ∷ line 4 (codes "RRRRRRRRRRRRRRRR") (codes "DDDDDDDDDDDDDDDD") Start 0 0 1
      ∷ [];
}
