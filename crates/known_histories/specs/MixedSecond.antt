-- The history mixed_second: its tables, its events, and the expected results.
use Rattle.std.specs.Prelude.{List, [], codes, ◌∷◌, true, false}
use Rattle.sig_types.specs.declared.frame.Field.TheVariants.{Veh, Ped as Button, Preempt as PreemptInput}
use Rattle.sig_types.specs.declared.frame.Mode.TheVariants.{Start, Free, Seek, Coord, Flash}
use Rattle.sig_tables.specs.declared.tables.Tables.{Tables}
use Rattle.sig_tables.specs.declared.cells.Cell.TheVariants.{Phase, Sequence, Split, Pattern as PatternCell, Preempt as PreemptCell, Unit as UnitCell}
use Rattle.sig_tables.specs.Cells.{Number, Octets}
use Rattle.sig_tables.specs.Putting.{with_cells}
use Rattle.sig_tables.specs.Past.{Input, Install, SetPattern, SetClock, Ask, Cancel, History}
use Rattle.sig_tables.specs.Standard.{std8}
use Rattle.known_histories.specs.Timeline.{Step, ticks, told_in_order, after, request}
use Rattle.known_histories.specs.HistoryTold.{HistoryTold, line}

-- the opening tables of the cabinet
abbrev pub mixed_second_tables : Tables
mixed_second_tables =
    with_cells std8 (
    (Phase 1 2, Number 3) ∷ (Phase 1 3, Number 6) ∷ (Phase 1 4, Number 2) ∷ (Phase 1 5, Number 17)
    ∷ (Phase 1 6, Number 35) ∷ (Phase 1 8, Number 32) ∷ (Phase 1 9, Number 17) ∷ (Phase 1 10, Number 5)
    ∷ (Phase 1 20, Number 1) ∷ (Phase 1 22, Number 2) ∷ (Phase 1 23, Octets (8 ∷ 7 ∷ [])) ∷ (Phase 2 2, Number 0)
    ∷ (Phase 2 3, Number 0) ∷ (Phase 2 4, Number 3) ∷ (Phase 2 5, Number 3) ∷ (Phase 2 6, Number 38)
    ∷ (Phase 2 8, Number 30) ∷ (Phase 2 9, Number 10) ∷ (Phase 2 10, Number 0) ∷ (Phase 2 20, Number 1)
    ∷ (Phase 2 21, Number 1025) ∷ (Phase 2 22, Number 2) ∷ (Phase 2 23, Octets (8 ∷ 7 ∷ [])) ∷ (Phase 3 2, Number 5)
    ∷ (Phase 3 3, Number 3) ∷ (Phase 3 5, Number 5) ∷ (Phase 3 6, Number 16) ∷ (Phase 3 8, Number 30)
    ∷ (Phase 3 9, Number 4) ∷ (Phase 3 10, Number 12) ∷ (Phase 3 20, Number 3) ∷ (Phase 3 21, Number 33)
    ∷ (Phase 3 23, Octets (6 ∷ 5 ∷ [])) ∷ (Phase 4 2, Number 3) ∷ (Phase 4 3, Number 2) ∷ (Phase 4 4, Number 5)
    ∷ (Phase 4 5, Number 3) ∷ (Phase 4 6, Number 33) ∷ (Phase 4 8, Number 34) ∷ (Phase 4 9, Number 6)
    ∷ (Phase 4 10, Number 4) ∷ (Phase 4 20, Number 1) ∷ (Phase 4 21, Number 1) ∷ (Phase 4 23, Octets (5 ∷ 6 ∷ []))
    ∷ (Phase 5 20, Number 4) ∷ (Phase 5 21, Number 1025) ∷ (Phase 5 23, Octets (4 ∷ 3 ∷ [])) ∷ (Phase 6 2, Number 6)
    ∷ (Phase 6 3, Number 0) ∷ (Phase 6 4, Number 2) ∷ (Phase 6 5, Number 31) ∷ (Phase 6 6, Number 29)
    ∷ (Phase 6 8, Number 31) ∷ (Phase 6 9, Number 3) ∷ (Phase 6 10, Number 37) ∷ (Phase 6 20, Number 1)
    ∷ (Phase 6 21, Number 1) ∷ (Phase 6 23, Octets (3 ∷ 4 ∷ [])) ∷ (Phase 7 20, Number 1) ∷ (Phase 7 22, Number 1)
    ∷ (Phase 7 23, Octets (1 ∷ 2 ∷ [])) ∷ (Phase 8 4, Number 5) ∷ (Phase 8 5, Number 20) ∷ (Phase 8 6, Number 20)
    ∷ (Phase 8 8, Number 35) ∷ (Phase 8 9, Number 10) ∷ (Phase 8 20, Number 1) ∷ (Phase 8 21, Number 1)
    ∷ (Phase 8 22, Number 1) ∷ (Phase 8 23, Octets (2 ∷ 1 ∷ [])) ∷ (Sequence 1 1, Octets (7 ∷ 8 ∷ 4 ∷ 3 ∷ []))
    ∷ (Sequence 1 2, Octets (1 ∷ 2 ∷ 5 ∷ 6 ∷ [])) ∷ (Split 25 1 3, Number 14) ∷ (Split 25 2 3, Number 23)
    ∷ (Split 25 2 4, Number 6) ∷ (Split 25 3 3, Number 21) ∷ (Split 25 3 5, Number 1) ∷ (Split 25 4 3, Number 10)
    ∷ (Split 25 5 3, Number 10) ∷ (Split 25 6 3, Number 21) ∷ (Split 25 6 4, Number 3) ∷ (Split 25 6 5, Number 1)
    ∷ (Split 25 7 3, Number 12) ∷ (Split 25 7 4, Number 3) ∷ (Split 25 8 3, Number 25) ∷ (PatternCell 1 2, Number 68)
    ∷ (PatternCell 1 3, Number 30) ∷ (PatternCell 1 4, Number 25) ∷ (PreemptCell 2 6, Number 7)
    ∷ (PreemptCell 2 7, Number 2) ∷ (PreemptCell 2 8, Number 1) ∷ (PreemptCell 2 9, Number 1)
    ∷ (PreemptCell 2 10, Number 4) ∷ (PreemptCell 2 11, Number 6) ∷ (PreemptCell 2 12, Octets (8 ∷ 2 ∷ []))
    ∷ (PreemptCell 2 14, Octets (251 ∷ [])) ∷ (UnitCell 2, Number 296) ∷ (UnitCell 3, Number 126)
    ∷ (UnitCell 4, Number 62) ∷ (UnitCell 5, Number 15) ∷ []
    )

-- the tables after this download
abbrev pub mixed_second_download_1 : Tables
mixed_second_download_1 =
    with_cells mixed_second_tables (
    (Phase 2 5, Number 18) ∷ (Phase 4 5, Number 5) ∷ (Phase 6 6, Number 1) ∷ (Phase 7 8, Number 33) ∷ []
    )

-- the tables after this download
abbrev pub mixed_second_download_2 : Tables
mixed_second_download_2 =
    with_cells mixed_second_download_1 (
    (Sequence 2 1, Octets (7 ∷ 8 ∷ 4 ∷ 3 ∷ [])) ∷ (Sequence 2 2, Octets (1 ∷ 2 ∷ 5 ∷ 6 ∷ [])) ∷ []
    )

-- the tables after this download
abbrev pub mixed_second_download_3 : Tables
mixed_second_download_3 =
    with_cells mixed_second_download_2 (
    (Phase 4 10, Number 23) ∷ (Phase 6 2, Number 3) ∷ (Phase 6 3, Number 1) ∷ (Phase 6 10, Number 3)
    ∷ (Phase 7 9, Number 19) ∷ (Phase 7 21, Number 65) ∷ []
    )

-- the tables after this download
abbrev pub mixed_second_download_4 : Tables
mixed_second_download_4 =
    with_cells mixed_second_download_3 (
    (Phase 1 21, Number 1025) ∷ (Phase 3 5, Number 10) ∷ (Phase 4 6, Number 7) ∷ (Phase 7 5, Number 13) ∷ []
    )

-- the events of the cabinet, in order
abbrev pub mixed_second_timeline : List Step
mixed_second_timeline =
    after 17 (Input (Veh 14 true)) ∷ after 0 (Input (Veh 6 true)) ∷ after 0 (Cancel 2) ∷ after 4 (Input (Veh 1 true))
    ∷ after 3 (Input (Veh 4 false)) ∷ after 15 (Input (Veh 6 true)) ∷ after 16 (Input (Veh 3 false))
    ∷ after 1 (Input (Veh 5 true)) ∷ after 6 (Input (Button 4)) ∷ after 6 (Ask (request 2 1 2 4 31 87))
    ∷ after 0 (Input (Button 2)) ∷ after 4 (Input (Veh 9 false)) ∷ after 19 (Input (Veh 4 true))
    ∷ after 1 (Input (Veh 4 false)) ∷ after 4 (Ask (request 2 2 2 6 23 42)) ∷ after 19 (Input (Veh 7 true))
    ∷ after 5 (SetClock 425187) ∷ after 6 (Install mixed_second_download_1) ∷ after 0 (Input (Veh 5 false))
    ∷ after 21 (Install mixed_second_download_2) ∷ after 25 (Input (PreemptInput 6 false))
    ∷ after 4 (Input (Veh 4 true)) ∷ after 3 (Input (Veh 2 true)) ∷ after 3 (Input (Button 6))
    ∷ after 16 (Install mixed_second_download_3) ∷ after 2 (Input (Veh 2 true)) ∷ after 0 (Input (Veh 3 true))
    ∷ after 1 (Input (Veh 4 true)) ∷ after 0 (Install mixed_second_download_4) ∷ after 22 (Input (Veh 16 false))
    ∷ after 3 (SetPattern 1) ∷ after 11 (Input (Veh 1 true)) ∷ after 16 (Input (Veh 3 true))
    ∷ after 10 (SetPattern 1) ∷ after 8 (Input (Veh 4 true)) ∷ after 9 (Input (Veh 7 true))
    ∷ after 27 (Input (Veh 1 false)) ∷ after 26 (Input (Veh 3 false)) ∷ after 14 (Input (PreemptInput 2 false))
    ∷ after 22 (Input (Veh 4 false)) ∷ after 1 (Input (Button 7)) ∷ after 7 (Input (Veh 7 true))
    ∷ after 9 (Input (Button 1)) ∷ after 8 (Input (Veh 2 true)) ∷ []

-- the history: these events, and the ticks after the last one
abbrev pub mixed_second_history : History
mixed_second_history = record { tables = mixed_second_tables; command = 255; clock = 424994; events = ticks 26 (told_in_order mixed_second_timeline []) }

-- the expected results, which an independent program computed; newest line first
abbrev pub mixed_second_told : HistoryTold
mixed_second_told = record {
  command = 0;
  clock = 425487;
  version = 4;
  requests = 0 ∷ 3 ∷ 0 ∷ 0 ∷ 0 ∷ 0 ∷ 0 ∷ 0 ∷ 0 ∷ 0 ∷ [];
  vehicle = 1 ∷ 2 ∷ 4 ∷ 7 ∷ 14 ∷ [];
  pedestrian = 1 ∷ 4 ∷ [];
  sums = record { counter = 0; target = 20169; command = 38181; clock = 178607790; active = 0 };
  lines =
      line 413 (codes "RRYRRYRRRRRRRRRR") (codes "DDDDDDDDDDDDDDDD") Free 0 0 4
      ∷ line 345 (codes "RRGRRGRRRRRRRRRR") (codes "DDDDDDDDDDDDDDDD") (Coord 1) 0 112 4
      ∷ line 335 (codes "RRGRRGRRRRRRRRRR") (codes "DDDDDFDDDDDDDDDD") (Coord 1) 0 102 4
      ∷ line 305 (codes "RRGRRGRRRRRRRRRR") (codes "DDDDDWDDDDDDDDDD") (Coord 1) 0 72 4
      ∷ line 295 (codes "RRGRCRRRRRRRRRRR") (codes "DDDDDDDDDDDDDDDD") (Seek 1) 0 62 4
      ∷ line 290 (codes "RRGRYRRRRRRRRRRR") (codes "DDDDDDDDDDDDDDDD") (Seek 1) 0 57 4
      ∷ line 260 (codes "RRGRYRRRRRRRRRRR") (codes "DDFDDDDDDDDDDDDD") (Seek 1) 0 27 4
      ∷ line 227 (codes "RRGRGRRRRRRRRRRR") (codes "DDWDDDDDDDDDDDDD") (Seek 1) 0 674 4
      ∷ line 210 (codes "RRGRGRRRRRRRRRRR") (codes "DDWDDDDDDDDDDDDD") Free 0 0 4
      ∷ line 202 (codes "RRRRRRRRRRRRRRRR") (codes "DDDDDDDDDDDDDDDD") Start 0 0 4
      ∷ line 199 (codes "RRRRRRRRRRRRRRRR") (codes "DDDDDDDDDDDDDDDD") Start 0 0 3
      ∷ line 150 (codes "RRRRRRRRRRRRRRRR") (codes "DDDDDDDDDDDDDDDD") Start 0 0 2
      ∷ line 148 (codes "RRRRRRRRRRRRRRRR") (codes "DDDDDDDDDDDDDDDD") Flash 0 0 2
      ∷ line 127 (codes "RRRRRRRRRRRRRRRR") (codes "DDDDDDDDDDDDDDDD") Flash 0 0 1
      ∷ line 60 (codes "RRRRRRRRRRRRRRRR") (codes "DDDDDDDDDDDDDDDD") Flash 0 0 0
      ∷ [];
}
