-- The history mixed_fifth: its tables, its events, and the expected results.
use Rattle.std.specs.Prelude.{List, [], codes, ◌∷◌, true, false}
use Rattle.sig_types.specs.declared.frame.Field.TheVariants.{Veh, Ped as Button, Preempt as PreemptInput}
use Rattle.sig_types.specs.declared.frame.Mode.TheVariants.{Start, Seek, Coord, Entry, Dwell}
use Rattle.sig_tables.specs.declared.tables.Tables.{Tables}
use Rattle.sig_tables.specs.declared.cells.Cell.TheVariants.{Phase, Sequence, Split, Pattern as PatternCell, Preempt as PreemptCell, Unit as UnitCell}
use Rattle.sig_tables.specs.Cells.{Number, Octets}
use Rattle.sig_tables.specs.Putting.{with_cells}
use Rattle.sig_tables.specs.Past.{Input, Install, History}
use Rattle.sig_tables.specs.Standard.{std8}
use Rattle.known_histories.specs.Timeline.{Step, ticks, told_in_order, after}
use Rattle.known_histories.specs.HistoryTold.{HistoryTold, line}

-- the opening tables of the cabinet
abbrev pub mixed_fifth_tables : Tables
mixed_fifth_tables =
    with_cells std8 (
    (Phase 1 20, Number 1) ∷ (Phase 1 21, Number 0) ∷ (Phase 2 20, Number 1) ∷ (Phase 2 21, Number 0)
    ∷ (Phase 3 20, Number 1) ∷ (Phase 3 21, Number 33) ∷ (Phase 3 22, Number 2) ∷ (Phase 3 23, Octets (4 ∷ 14 ∷ []))
    ∷ (Phase 4 2, Number 3) ∷ (Phase 4 3, Number 5) ∷ (Phase 4 4, Number 2) ∷ (Phase 4 5, Number 15)
    ∷ (Phase 4 6, Number 22) ∷ (Phase 4 8, Number 30) ∷ (Phase 4 9, Number 11) ∷ (Phase 4 10, Number 18)
    ∷ (Phase 4 20, Number 1) ∷ (Phase 4 23, Octets (3 ∷ [])) ∷ (Phase 5 20, Number 1) ∷ (Phase 5 21, Number 0)
    ∷ (Phase 6 20, Number 1) ∷ (Phase 6 21, Number 0) ∷ (Phase 7 20, Number 1) ∷ (Phase 7 21, Number 0)
    ∷ (Phase 8 2, Number 6) ∷ (Phase 8 3, Number 10) ∷ (Phase 8 4, Number 16) ∷ (Phase 8 5, Number 9)
    ∷ (Phase 8 6, Number 1) ∷ (Phase 8 8, Number 35) ∷ (Phase 8 9, Number 6) ∷ (Phase 8 10, Number 37)
    ∷ (Phase 8 20, Number 4) ∷ (Phase 8 21, Number 33155) ∷ (Phase 8 22, Number 1) ∷ (Phase 8 23, Octets (12 ∷ []))
    ∷ (Phase 11 4, Number 1) ∷ (Phase 11 5, Number 14) ∷ (Phase 11 6, Number 20) ∷ (Phase 11 8, Number 32)
    ∷ (Phase 11 9, Number 3) ∷ (Phase 11 10, Number 22) ∷ (Phase 11 21, Number 1) ∷ (Phase 11 22, Number 2)
    ∷ (Phase 11 23, Octets (15 ∷ [])) ∷ (Phase 12 4, Number 16) ∷ (Phase 12 5, Number 16) ∷ (Phase 12 6, Number 31)
    ∷ (Phase 12 8, Number 41) ∷ (Phase 12 9, Number 5) ∷ (Phase 12 20, Number 4) ∷ (Phase 12 21, Number 1)
    ∷ (Phase 12 22, Number 2) ∷ (Phase 12 23, Octets (8 ∷ [])) ∷ (Phase 15 2, Number 3) ∷ (Phase 15 3, Number 2)
    ∷ (Phase 15 4, Number 3) ∷ (Phase 15 5, Number 33) ∷ (Phase 15 6, Number 11) ∷ (Phase 15 8, Number 31)
    ∷ (Phase 15 9, Number 6) ∷ (Phase 15 10, Number 18) ∷ (Phase 15 21, Number 1) ∷ (Phase 15 22, Number 1)
    ∷ (Phase 15 23, Octets (11 ∷ [])) ∷ (Sequence 1 1, Octets (15 ∷ 8 ∷ 4 ∷ []))
    ∷ (Sequence 1 2, Octets (11 ∷ 12 ∷ 3 ∷ [])) ∷ (Split 16 3 3, Number 16) ∷ (Split 16 3 5, Number 1)
    ∷ (Split 16 4 3, Number 16) ∷ (Split 16 4 5, Number 1) ∷ (Split 16 8 3, Number 21) ∷ (Split 16 8 4, Number 7)
    ∷ (Split 16 11 3, Number 9) ∷ (Split 16 11 4, Number 7) ∷ (Split 16 12 3, Number 21) ∷ (Split 16 12 4, Number 4)
    ∷ (Split 16 15 3, Number 9) ∷ (Split 16 15 4, Number 1) ∷ (PatternCell 1 2, Number 46)
    ∷ (PatternCell 1 4, Number 16) ∷ (PreemptCell 8 6, Number 5) ∷ (PreemptCell 8 7, Number 2)
    ∷ (PreemptCell 8 8, Number 8) ∷ (PreemptCell 8 9, Number 5) ∷ (PreemptCell 8 10, Number 2)
    ∷ (PreemptCell 8 12, Octets (15 ∷ 11 ∷ [])) ∷ (PreemptCell 8 13, Octets (12 ∷ []))
    ∷ (PreemptCell 8 15, Octets (11 ∷ 15 ∷ [])) ∷ (UnitCell 2, Number 2) ∷ (UnitCell 3, Number 77)
    ∷ (UnitCell 4, Number 33) ∷ []
    )

-- the tables after this download
abbrev pub mixed_fifth_download_1 : Tables
mixed_fifth_download_1 =
    with_cells mixed_fifth_tables (
    (Phase 3 10, Number 1) ∷ (Phase 4 3, Number 2) ∷ (Phase 4 21, Number 1) ∷ (Phase 8 5, Number 39)
    ∷ (Phase 11 6, Number 16) ∷ (Phase 11 21, Number 65) ∷ []
    )

-- the tables after this download
abbrev pub mixed_fifth_download_2 : Tables
mixed_fifth_download_2 =
    with_cells mixed_fifth_download_1 (
    (PreemptCell 8 4, Number 2) ∷ (PreemptCell 8 5, Number 4) ∷ (PreemptCell 8 6, Number 0)
    ∷ (PreemptCell 8 8, Number 5) ∷ (PreemptCell 8 9, Number 6) ∷ (PreemptCell 8 10, Number 8)
    ∷ (PreemptCell 8 11, Number 9) ∷ (PreemptCell 8 12, Octets ([])) ∷ (PreemptCell 8 13, Octets (3 ∷ 4 ∷ []))
    ∷ (PreemptCell 8 15, Octets ([])) ∷ []
    )

-- the events of the cabinet, in order
abbrev pub mixed_fifth_timeline : List Step
mixed_fifth_timeline =
    after 3 (Input (Veh 11 true)) ∷ after 12 (Input (Button 15)) ∷ after 8 (Input (Veh 3 false))
    ∷ after 0 (Input (Veh 4 false)) ∷ after 3 (Input (Veh 8 true)) ∷ after 8 (Install mixed_fifth_download_1)
    ∷ after 6 (Input (PreemptInput 8 true)) ∷ after 39 (Input (Veh 15 true)) ∷ after 56 (Input (PreemptInput 8 true))
    ∷ after 17 (Install mixed_fifth_download_2) ∷ after 12 (Input (Veh 15 true)) ∷ after 3 (Input (Button 4))
    ∷ after 16 (Input (Veh 3 false)) ∷ after 13 (Input (Button 12)) ∷ after 15 (Input (Button 4))
    ∷ after 6 (Input (Button 15)) ∷ after 8 (Input (Veh 11 true)) ∷ after 11 (Input (Veh 12 false))
    ∷ after 16 (Input (Veh 8 true)) ∷ after 11 (Input (Button 4)) ∷ after 1 (Input (Button 15))
    ∷ after 4 (Input (Veh 15 false)) ∷ after 24 (Input (Veh 15 false)) ∷ after 17 (Input (PreemptInput 8 true))
    ∷ after 64 (Input (Veh 11 true)) ∷ after 13 (Input (Veh 8 true)) ∷ after 5 (Input (Veh 11 true))
    ∷ after 2 (Input (Veh 3 false)) ∷ after 2 (Input (Veh 12 false)) ∷ after 15 (Input (Veh 16 true))
    ∷ after 4 (Input (Veh 4 false)) ∷ []

-- the history: these events, and the ticks after the last one
abbrev pub mixed_fifth_history : History
mixed_fifth_history = record { tables = mixed_fifth_tables; command = 1; clock = 2298; events = ticks 6 (told_in_order mixed_fifth_timeline []) }

-- the expected results, which an independent program computed; newest line first
abbrev pub mixed_fifth_told : HistoryTold
mixed_fifth_told = record {
  command = 1;
  clock = 2718;
  version = 2;
  requests = 0 ∷ 0 ∷ 0 ∷ 0 ∷ 0 ∷ 0 ∷ 0 ∷ 0 ∷ 0 ∷ 0 ∷ [];
  vehicle = 8 ∷ 11 ∷ 15 ∷ 16 ∷ [];
  pedestrian = 15 ∷ [];
  sums = record { counter = 10296; target = 50501; command = 420; clock = 1053570; active = 0 };
  lines =
      line 392 (codes "RRYYRRRRRRRRRRRR") (codes "DDDDDDDDDDDDDDDD") (Coord 1) 115 390 2
      ∷ line 325 (codes "RRGGRRRRRRRRRRRR") (codes "DDDDDDDDDDDDDDDD") (Coord 1) 48 323 2
      ∷ line 305 (codes "RRGGRRRRRRRRRRRR") (codes "DDDFDDDDDDDDDDDD") (Coord 1) 28 303 2
      ∷ line 275 (codes "RRGGRRRRRRRRRRRR") (codes "DDDWDDDDDDDDDDDD") (Coord 1) 0 273 2
      ∷ line 195 (codes "RRGGRRRRRRRRRRRR") (codes "DDDDDDDDDDDDDDDD") (Dwell 8) 0 0 2
      ∷ line 194 (codes "RRGGRRRRRRRRRRRR") (codes "DDDDDDDDDDDDDDDD") (Entry 8) 0 0 2
      ∷ line 188 (codes "RRRRRRRCRRRRRRRR") (codes "DDDDDDDDDDDDDDDD") (Entry 8) 0 0 2
      ∷ line 156 (codes "RRRRRRRYRRRRRRRR") (codes "DDDDDDDDDDDDDDDD") (Entry 8) 0 0 2
      ∷ line 153 (codes "RRRRRRRYRRRCRRRR") (codes "DDDDDDDDDDDDDDDD") (Entry 8) 0 0 2
      ∷ line 151 (codes "RRRRRRRGRRRCRRRR") (codes "DDDDDDDFDDDDDDDD") (Entry 8) 0 0 1
      ∷ line 110 (codes "RRRRRRRGRRRYRRRR") (codes "DDDDDDDFDDDDDDDD") (Entry 8) 0 0 1
      ∷ line 80 (codes "RRRRRRRGRRRGRRRR") (codes "DDDDDDDFDDDDDDDD") (Entry 8) 0 0 1
      ∷ line 61 (codes "RRRRRRRGRRRGRRRR") (codes "DDDDDDDWDDDDDDDD") (Entry 8) 0 0 1
      ∷ line 60 (codes "RRRRRRRGRRRGRRRR") (codes "DDDDDDDWDDDDDDDD") (Seek 1) 0 58 1
      ∷ line 35 (codes "RRRRRRRRRRRRRRRR") (codes "DDDDDDDDDDDDDDDD") Start 0 0 1
      ∷ [];
}
