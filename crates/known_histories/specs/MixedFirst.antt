-- The history mixed_first: its tables, its events, and the expected results.
use Rattle.std.specs.Prelude.{List, [], codes, ◌∷◌, true, false}
use Rattle.sig_types.specs.declared.frame.Field.TheVariants.{Veh, Ped as Button}
use Rattle.sig_types.specs.declared.frame.Mode.TheVariants.{Start, Free, Seek, Coord, Ending, Flash}
use Rattle.sig_tables.specs.declared.tables.Tables.{Tables}
use Rattle.sig_tables.specs.declared.cells.Cell.TheVariants.{Phase, Sequence, Split, Pattern as PatternCell, Unit as UnitCell}
use Rattle.sig_tables.specs.Cells.{Number, Octets}
use Rattle.sig_tables.specs.Putting.{with_cells}
use Rattle.sig_tables.specs.Past.{Input, Install, SetPattern, History}
use Rattle.sig_tables.specs.Standard.{std8}
use Rattle.known_histories.specs.Timeline.{Step, ticks, told_in_order, after}
use Rattle.known_histories.specs.HistoryTold.{HistoryTold, line}

-- the opening tables of the cabinet
abbrev pub mixed_first_tables : Tables
mixed_first_tables =
    with_cells std8 (
    (Phase 1 2, Number 6) ∷ (Phase 1 3, Number 3) ∷ (Phase 1 4, Number 4) ∷ (Phase 1 5, Number 39)
    ∷ (Phase 1 6, Number 15) ∷ (Phase 1 8, Number 30) ∷ (Phase 1 9, Number 0) ∷ (Phase 1 10, Number 0)
    ∷ (Phase 1 20, Number 1) ∷ (Phase 1 23, Octets (2 ∷ 11 ∷ [])) ∷ (Phase 2 2, Number 0) ∷ (Phase 2 3, Number 0)
    ∷ (Phase 2 4, Number 4) ∷ (Phase 2 5, Number 37) ∷ (Phase 2 6, Number 26) ∷ (Phase 2 8, Number 31)
    ∷ (Phase 2 9, Number 16) ∷ (Phase 2 10, Number 6) ∷ (Phase 2 20, Number 1) ∷ (Phase 2 21, Number 1)
    ∷ (Phase 2 22, Number 2) ∷ (Phase 2 23, Octets (13 ∷ 1 ∷ [])) ∷ (Phase 3 2, Number 2) ∷ (Phase 3 3, Number 3)
    ∷ (Phase 3 4, Number 0) ∷ (Phase 3 5, Number 18) ∷ (Phase 3 6, Number 28) ∷ (Phase 3 8, Number 32)
    ∷ (Phase 3 9, Number 9) ∷ (Phase 3 10, Number 0) ∷ (Phase 3 20, Number 1) ∷ (Phase 3 23, Octets (14 ∷ []))
    ∷ (Phase 4 20, Number 1) ∷ (Phase 4 21, Number 0) ∷ (Phase 5 2, Number 5) ∷ (Phase 5 4, Number 1)
    ∷ (Phase 5 5, Number 4) ∷ (Phase 5 6, Number 27) ∷ (Phase 5 8, Number 33) ∷ (Phase 5 9, Number 1)
    ∷ (Phase 5 10, Number 1) ∷ (Phase 5 20, Number 1) ∷ (Phase 5 21, Number 32835) ∷ (Phase 5 22, Number 1)
    ∷ (Phase 5 23, Octets (14 ∷ [])) ∷ (Phase 6 2, Number 0) ∷ (Phase 6 3, Number 0) ∷ (Phase 6 4, Number 3)
    ∷ (Phase 6 5, Number 26) ∷ (Phase 6 6, Number 38) ∷ (Phase 6 8, Number 35) ∷ (Phase 6 9, Number 3)
    ∷ (Phase 6 10, Number 35) ∷ (Phase 6 20, Number 1) ∷ (Phase 6 21, Number 1) ∷ (Phase 6 22, Number 1)
    ∷ (Phase 6 23, Octets (14 ∷ [])) ∷ (Phase 7 20, Number 1) ∷ (Phase 7 21, Number 33891) ∷ (Phase 7 22, Number 1)
    ∷ (Phase 7 23, Octets (9 ∷ [])) ∷ (Phase 8 20, Number 1) ∷ (Phase 8 21, Number 0) ∷ (Phase 9 2, Number 5)
    ∷ (Phase 9 3, Number 1) ∷ (Phase 9 4, Number 1) ∷ (Phase 9 5, Number 18) ∷ (Phase 9 6, Number 32)
    ∷ (Phase 9 8, Number 32) ∷ (Phase 9 21, Number 1) ∷ (Phase 9 22, Number 2) ∷ (Phase 9 23, Octets (7 ∷ []))
    ∷ (Phase 10 2, Number 1) ∷ (Phase 10 3, Number 5) ∷ (Phase 10 4, Number 2) ∷ (Phase 10 5, Number 25)
    ∷ (Phase 10 8, Number 35) ∷ (Phase 10 9, Number 23) ∷ (Phase 10 10, Number 31) ∷ (Phase 10 21, Number 1)
    ∷ (Phase 10 22, Number 1) ∷ (Phase 10 23, Octets (14 ∷ [])) ∷ (Phase 13 4, Number 5) ∷ (Phase 13 5, Number 20)
    ∷ (Phase 13 6, Number 20) ∷ (Phase 13 8, Number 35) ∷ (Phase 13 9, Number 10) ∷ (Phase 13 10, Number 20)
    ∷ (Phase 13 21, Number 1) ∷ (Phase 13 22, Number 1) ∷ (Phase 13 23, Octets (2 ∷ [])) ∷ (Phase 14 2, Number 5)
    ∷ (Phase 14 4, Number 2) ∷ (Phase 14 5, Number 26) ∷ (Phase 14 6, Number 37) ∷ (Phase 14 8, Number 31)
    ∷ (Phase 14 9, Number 15) ∷ (Phase 14 10, Number 16) ∷ (Phase 14 21, Number 33) ∷ (Phase 14 22, Number 2)
    ∷ (Phase 14 23, Octets (6 ∷ 3 ∷ 5 ∷ 10 ∷ [])) ∷ (Sequence 1 1, Octets (7 ∷ 13 ∷ 1 ∷ 5 ∷ 3 ∷ 10 ∷ 6 ∷ []))
    ∷ (Sequence 1 2, Octets (9 ∷ 2 ∷ 14 ∷ [])) ∷ (Sequence 9 1, Octets (7 ∷ 6 ∷ 5 ∷ 3 ∷ 10 ∷ 13 ∷ 1 ∷ []))
    ∷ (Sequence 9 2, Octets (9 ∷ 14 ∷ 2 ∷ [])) ∷ (Split 13 1 3, Number 26) ∷ (Split 13 2 3, Number 44)
    ∷ (Split 13 2 4, Number 1) ∷ (Split 13 3 3, Number 13) ∷ (Split 13 3 4, Number 4) ∷ (Split 13 5 3, Number 15)
    ∷ (Split 13 5 4, Number 3) ∷ (Split 13 6 3, Number 9) ∷ (Split 13 7 3, Number 21) ∷ (Split 13 7 4, Number 6)
    ∷ (Split 13 7 5, Number 1) ∷ (Split 13 9 3, Number 21) ∷ (Split 13 9 5, Number 1) ∷ (Split 13 10 3, Number 21)
    ∷ (Split 13 10 4, Number 4) ∷ (Split 13 13 3, Number 18) ∷ (Split 13 13 4, Number 5) ∷ (Split 13 14 3, Number 58)
    ∷ (Split 13 14 4, Number 3) ∷ (Split 17 1 3, Number 14) ∷ (Split 17 1 4, Number 7) ∷ (Split 17 2 3, Number 24)
    ∷ (Split 17 3 3, Number 11) ∷ (Split 17 5 3, Number 11) ∷ (Split 17 5 4, Number 6) ∷ (Split 17 6 3, Number 9)
    ∷ (Split 17 6 4, Number 4) ∷ (Split 17 7 3, Number 14) ∷ (Split 17 7 5, Number 1) ∷ (Split 17 9 3, Number 14)
    ∷ (Split 17 9 4, Number 4) ∷ (Split 17 9 5, Number 1) ∷ (Split 17 10 3, Number 12) ∷ (Split 17 10 4, Number 6)
    ∷ (Split 17 13 3, Number 10) ∷ (Split 17 14 3, Number 43) ∷ (Split 17 14 4, Number 4) ∷ (Split 29 1 3, Number 22)
    ∷ (Split 29 1 4, Number 6) ∷ (Split 29 1 5, Number 1) ∷ (Split 29 2 3, Number 34) ∷ (Split 29 2 4, Number 5)
    ∷ (Split 29 2 5, Number 1) ∷ (Split 29 3 3, Number 14) ∷ (Split 29 5 3, Number 15) ∷ (Split 29 5 4, Number 5)
    ∷ (Split 29 6 3, Number 9) ∷ (Split 29 6 4, Number 1) ∷ (Split 29 7 3, Number 14) ∷ (Split 29 7 4, Number 6)
    ∷ (Split 29 9 3, Number 14) ∷ (Split 29 9 4, Number 4) ∷ (Split 29 10 3, Number 13) ∷ (Split 29 13 3, Number 12)
    ∷ (Split 29 13 4, Number 3) ∷ (Split 29 14 3, Number 51) ∷ (Split 29 14 4, Number 7)
    ∷ (PatternCell 1 2, Number 81) ∷ (PatternCell 1 4, Number 17) ∷ (PatternCell 1 5, Number 9)
    ∷ (PatternCell 6 2, Number 99) ∷ (PatternCell 6 3, Number 4) ∷ (PatternCell 6 4, Number 29)
    ∷ (PatternCell 6 5, Number 1) ∷ (PatternCell 17 3, Number 66) ∷ (PatternCell 17 4, Number 13)
    ∷ (PatternCell 17 5, Number 1) ∷ (PatternCell 41 2, Number 123) ∷ (PatternCell 41 4, Number 13)
    ∷ (PatternCell 41 5, Number 9) ∷ (UnitCell 1, Number 3) ∷ (UnitCell 2, Number 74) ∷ (UnitCell 3, Number 59)
    ∷ (UnitCell 4, Number 20) ∷ []
    )

-- the tables after this download
abbrev pub mixed_first_download_1 : Tables
mixed_first_download_1 =
    with_cells mixed_first_tables (
    (Split 15 1 3, Number 18) ∷ (Split 15 1 4, Number 4) ∷ (Split 15 2 3, Number 36) ∷ (Split 15 3 3, Number 12)
    ∷ (Split 15 3 4, Number 1) ∷ (Split 15 5 3, Number 21) ∷ (Split 15 5 4, Number 4) ∷ (Split 15 6 3, Number 10)
    ∷ (Split 15 7 3, Number 26) ∷ (Split 15 7 5, Number 1) ∷ (Split 15 9 3, Number 26) ∷ (Split 15 9 4, Number 3)
    ∷ (Split 15 9 5, Number 1) ∷ (Split 15 10 3, Number 17) ∷ (Split 15 10 4, Number 4) ∷ (Split 15 13 3, Number 18)
    ∷ (Split 15 14 3, Number 60) ∷ (Split 15 14 4, Number 1) ∷ (PatternCell 44 2, Number 122)
    ∷ (PatternCell 44 3, Number 27) ∷ (PatternCell 44 4, Number 15) ∷ (PatternCell 44 5, Number 1)
    ∷ (UnitCell 2, Number 4) ∷ (UnitCell 3, Number 71) ∷ (UnitCell 4, Number 35) ∷ []
    )

-- the tables after this download
abbrev pub mixed_first_download_2 : Tables
mixed_first_download_2 =
    with_cells mixed_first_download_1 (
    (Sequence 1 1, Octets (7 ∷ 6 ∷ 5 ∷ 10 ∷ 3 ∷ 1 ∷ 13 ∷ [])) ∷ (Sequence 1 2, Octets (9 ∷ 14 ∷ 2 ∷ [])) ∷ []
    )

-- the tables after this download
abbrev pub mixed_first_download_3 : Tables
mixed_first_download_3 =
    with_cells mixed_first_download_2 (
    (Sequence 3 1, Octets (1 ∷ 13 ∷ 10 ∷ 5 ∷ 6 ∷ 3 ∷ 7 ∷ [])) ∷ (Sequence 3 2, Octets (2 ∷ 14 ∷ 9 ∷ [])) ∷ []
    )

-- the tables after this download
abbrev pub mixed_first_download_4 : Tables
mixed_first_download_4 =
    with_cells mixed_first_download_3 (
    (Sequence 3 1, Octets (13 ∷ 1 ∷ 5 ∷ 6 ∷ 3 ∷ 10 ∷ 7 ∷ [])) ∷ []
    )

-- the events of the cabinet, in order
abbrev pub mixed_first_timeline : List Step
mixed_first_timeline =
    after 1 (Install mixed_first_download_1) ∷ after 2 (Input (Veh 9 false)) ∷ after 34 (Input (Veh 6 true))
    ∷ after 5 (Input (Veh 7 true)) ∷ after 14 (Input (Button 5)) ∷ after 36 (SetPattern 1)
    ∷ after 0 (Input (Button 2)) ∷ after 2 (SetPattern 0) ∷ after 6 (Input (Veh 6 true))
    ∷ after 7 (Input (Veh 1 true)) ∷ after 1 (Input (Veh 2 true)) ∷ after 3 (SetPattern 6)
    ∷ after 17 (Input (Veh 13 false)) ∷ after 4 (Input (Veh 14 true)) ∷ after 7 (SetPattern 255)
    ∷ after 1 (Install mixed_first_download_2) ∷ after 7 (Input (Veh 7 false)) ∷ after 4 (Input (Veh 9 false))
    ∷ after 6 (Input (Veh 14 true)) ∷ after 2 (Install mixed_first_download_3) ∷ after 38 (Input (Veh 9 false))
    ∷ after 23 (Input (Veh 10 false)) ∷ after 13 (Input (Veh 1 true)) ∷ after 11 (Input (Veh 15 false))
    ∷ after 5 (SetPattern 44) ∷ after 28 (Install mixed_first_download_4) ∷ after 2 (SetPattern 1)
    ∷ after 21 (Input (Button 6)) ∷ after 1 (Input (Button 9)) ∷ after 8 (Input (Veh 13 true))
    ∷ after 3 (Input (Veh 10 false)) ∷ after 12 (Input (Veh 2 true)) ∷ after 5 (Input (Veh 14 true))
    ∷ after 6 (Input (Veh 14 false)) ∷ after 22 (Input (Veh 3 false)) ∷ after 35 (Input (Veh 14 false))
    ∷ after 8 (SetPattern 44) ∷ after 19 (Input (Veh 3 false)) ∷ []

-- the history: these events, and the ticks after the last one
abbrev pub mixed_first_history : History
mixed_first_history = record { tables = mixed_first_tables; command = 6; clock = 863949; events = ticks 1 (told_in_order mixed_first_timeline []) }

-- the expected results, which an independent program computed; newest line first
abbrev pub mixed_first_told : HistoryTold
mixed_first_told = record {
  command = 44;
  clock = 369;
  version = 4;
  requests = 0 ∷ 0 ∷ 0 ∷ 0 ∷ 0 ∷ 0 ∷ 0 ∷ 0 ∷ 0 ∷ 0 ∷ [];
  vehicle = 1 ∷ 2 ∷ 6 ∷ 13 ∷ [];
  pedestrian = 5 ∷ [];
  sums = record { counter = 3396; target = 60700; command = 31093; clock = 43266990; active = 0 };
  lines =
      line 401 (codes "RRRRRRGRGRRRRRRR") (codes "DDDDDDDDDDDDDDDD") (Coord 44) 0 80 4
      ∷ line 370 (codes "RRRRRRGRGRRRRRRR") (codes "DDDDDDDDDDDDDDDD") (Coord 1) 30 319 4
      ∷ line 360 (codes "RRRRRRGRGRRRRRRR") (codes "DDDDDDDDFDDDDDDD") (Coord 1) 25 309 4
      ∷ line 310 (codes "RRRRRRGRGRRRRRRR") (codes "DDDDDDDDWDDDDDDD") (Coord 1) 0 259 4
      ∷ line 278 (codes "RRRRRRRRRRRRRRRR") (codes "DDDDDDDDDDDDDDDD") Start 0 0 4
      ∷ line 250 (codes "RRRRRRRRRRRRRRRR") (codes "DDDDDDDDDDDDDDDD") Start 0 0 3
      ∷ line 187 (codes "RRRRRRRRRRRRRRRR") (codes "DDDDDDDDDDDDDDDD") Flash 0 0 3
      ∷ line 180 (codes "RCRRRRRRRRRRRRRR") (codes "DDDDDDDDDDDDDDDD") Ending 0 0 3
      ∷ line 171 (codes "YCRRRRRRRRRRRRRR") (codes "DDDDDDDDDDDDDDDD") Ending 0 0 3
      ∷ line 160 (codes "YYRRRRRRRRRRRRRR") (codes "DDDDDDDDDDDDDDDD") Ending 0 0 3
      ∷ line 150 (codes "YYRRRRRRRRRRRRRR") (codes "DDDDDDDDDDDDDDDD") Ending 0 0 2
      ∷ line 141 (codes "GYRRRRRRRRRRRRRR") (codes "FDDDDDDDDDDDDDDD") Ending 0 0 2
      ∷ line 140 (codes "GYRRRRRRRRRRRRRR") (codes "FDDDDDDDDDDDDDDD") Ending 0 0 1
      ∷ line 120 (codes "GGRRRRRRRRRRRRRR") (codes "FDDDDDDDDDDDDDDD") (Coord 6) 16 29 1
      ∷ line 112 (codes "GGRRRRRRRRRRRRRR") (codes "WDDDDDDDDDDDDDDD") (Coord 6) 0 21 1
      ∷ line 95 (codes "GGRRRRRRRRRRRRRR") (codes "WDDDDDDDDDDDDDDD") Free 0 0 1
      ∷ line 93 (codes "GGRRRRRRRRRRRRRR") (codes "WDDDDDDDDDDDDDDD") (Seek 1) 0 42 1
      ∷ line 60 (codes "GGRRRRRRRRRRRRRR") (codes "WDDDDDDDDDDDDDDD") (Coord 6) 0 959 1
      ∷ line 2 (codes "RRRRRRRRRRRRRRRR") (codes "DDDDDDDDDDDDDDDD") Start 0 0 1
      ∷ [];
}
