-- The history mixed_sixth: its tables, its events, and the expected results.
use Rattle.std.specs.Prelude.{List, [], codes, ◌∷◌, true, false}
use Rattle.sig_types.specs.declared.frame.Field.TheVariants.{Veh, Ped as Button, Preempt as PreemptInput}
use Rattle.sig_types.specs.declared.frame.Mode.TheVariants.{Seek, Coord, Entry, Dwell, Exit}
use Rattle.sig_tables.specs.declared.tables.Tables.{Tables}
use Rattle.sig_tables.specs.declared.cells.Cell.TheVariants.{Phase, Sequence, Split, Pattern as PatternCell, Preempt as PreemptCell, Unit as UnitCell}
use Rattle.sig_tables.specs.Cells.{Number, Octets}
use Rattle.sig_tables.specs.Putting.{with_cells}
use Rattle.sig_tables.specs.Past.{Input, Install, SetPattern, SetClock, Ask, Cancel, History}
use Rattle.sig_tables.specs.Standard.{std8}
use Rattle.known_histories.specs.Timeline.{Step, ticks, told_in_order, after, request}
use Rattle.known_histories.specs.HistoryTold.{HistoryTold, line}

-- the opening tables of the cabinet
abbrev pub mixed_sixth_tables : Tables
mixed_sixth_tables =
    with_cells std8 (
    (Phase 1 2, Number 5) ∷ (Phase 1 3, Number 1) ∷ (Phase 1 4, Number 4) ∷ (Phase 1 5, Number 31)
    ∷ (Phase 1 6, Number 33) ∷ (Phase 1 8, Number 32) ∷ (Phase 1 9, Number 1) ∷ (Phase 1 10, Number 0)
    ∷ (Phase 1 20, Number 1) ∷ (Phase 1 21, Number 1025) ∷ (Phase 1 23, Octets (6 ∷ [])) ∷ (Phase 2 4, Number 5)
    ∷ (Phase 2 5, Number 20) ∷ (Phase 2 6, Number 20) ∷ (Phase 2 8, Number 35) ∷ (Phase 2 9, Number 10)
    ∷ (Phase 2 20, Number 1) ∷ (Phase 2 21, Number 1) ∷ (Phase 2 23, Octets (8 ∷ 5 ∷ [])) ∷ (Phase 3 4, Number 2)
    ∷ (Phase 3 5, Number 2) ∷ (Phase 3 6, Number 25) ∷ (Phase 3 8, Number 31) ∷ (Phase 3 9, Number 0)
    ∷ (Phase 3 10, Number 0) ∷ (Phase 3 20, Number 1) ∷ (Phase 3 21, Number 129) ∷ (Phase 3 22, Number 2)
    ∷ (Phase 3 23, Octets (7 ∷ [])) ∷ (Phase 4 2, Number 3) ∷ (Phase 4 3, Number 0) ∷ (Phase 4 4, Number 2)
    ∷ (Phase 4 5, Number 32) ∷ (Phase 4 6, Number 0) ∷ (Phase 4 8, Number 35) ∷ (Phase 4 9, Number 4)
    ∷ (Phase 4 10, Number 0) ∷ (Phase 4 20, Number 1) ∷ (Phase 4 22, Number 2) ∷ (Phase 4 23, Octets (7 ∷ []))
    ∷ (Phase 5 4, Number 2) ∷ (Phase 5 5, Number 26) ∷ (Phase 5 6, Number 37) ∷ (Phase 5 8, Number 30)
    ∷ (Phase 5 9, Number 0) ∷ (Phase 5 10, Number 2) ∷ (Phase 5 20, Number 1) ∷ (Phase 5 23, Octets (2 ∷ []))
    ∷ (Phase 6 2, Number 1) ∷ (Phase 6 3, Number 0) ∷ (Phase 6 4, Number 6) ∷ (Phase 6 5, Number 32)
    ∷ (Phase 6 6, Number 0) ∷ (Phase 6 8, Number 34) ∷ (Phase 6 9, Number 13) ∷ (Phase 6 10, Number 5)
    ∷ (Phase 6 20, Number 1) ∷ (Phase 6 21, Number 257) ∷ (Phase 6 23, Octets (1 ∷ [])) ∷ (Phase 7 2, Number 5)
    ∷ (Phase 7 3, Number 6) ∷ (Phase 7 4, Number 1) ∷ (Phase 7 5, Number 2) ∷ (Phase 7 6, Number 29)
    ∷ (Phase 7 8, Number 32) ∷ (Phase 7 9, Number 9) ∷ (Phase 7 10, Number 37) ∷ (Phase 7 20, Number 1)
    ∷ (Phase 7 22, Number 1) ∷ (Phase 8 2, Number 5) ∷ (Phase 8 3, Number 5) ∷ (Phase 8 4, Number 0)
    ∷ (Phase 8 5, Number 35) ∷ (Phase 8 6, Number 5) ∷ (Phase 8 8, Number 35) ∷ (Phase 8 9, Number 0)
    ∷ (Phase 8 10, Number 34) ∷ (Phase 8 20, Number 1) ∷ (Phase 8 21, Number 33027) ∷ (Phase 8 23, Octets (2 ∷ []))
    ∷ (Sequence 1 1, Octets (1 ∷ 7 ∷ 2 ∷ [])) ∷ (Sequence 1 2, Octets (6 ∷ 4 ∷ 3 ∷ 8 ∷ 5 ∷ []))
    ∷ (Sequence 2 1, Octets (2 ∷ 7 ∷ 1 ∷ [])) ∷ (Sequence 2 2, Octets (8 ∷ 5 ∷ 4 ∷ 3 ∷ 6 ∷ []))
    ∷ (Sequence 9 1, Octets (2 ∷ 7 ∷ 1 ∷ [])) ∷ (Sequence 9 2, Octets (5 ∷ 8 ∷ 4 ∷ 3 ∷ 6 ∷ []))
    ∷ (Split 10 1 3, Number 20) ∷ (Split 10 1 4, Number 5) ∷ (Split 10 1 5, Number 1) ∷ (Split 10 2 3, Number 26)
    ∷ (Split 10 3 3, Number 12) ∷ (Split 10 4 3, Number 8) ∷ (Split 10 4 4, Number 6) ∷ (Split 10 5 3, Number 26)
    ∷ (Split 10 5 4, Number 1) ∷ (Split 10 6 3, Number 20) ∷ (Split 10 6 5, Number 1) ∷ (Split 10 7 3, Number 20)
    ∷ (Split 10 7 4, Number 3) ∷ (Split 10 8 4, Number 7) ∷ (Split 17 1 3, Number 20) ∷ (Split 17 1 4, Number 6)
    ∷ (Split 17 2 3, Number 44) ∷ (Split 17 2 5, Number 1) ∷ (Split 17 3 3, Number 9) ∷ (Split 17 3 4, Number 6)
    ∷ (Split 17 4 3, Number 18) ∷ (Split 17 4 4, Number 5) ∷ (Split 17 5 3, Number 27) ∷ (Split 17 5 5, Number 1)
    ∷ (Split 17 6 3, Number 20) ∷ (Split 17 6 4, Number 7) ∷ (Split 17 7 3, Number 27) ∷ (Split 17 8 3, Number 17)
    ∷ (Split 26 1 3, Number 15) ∷ (Split 26 1 4, Number 4) ∷ (Split 26 1 5, Number 1) ∷ (Split 26 2 3, Number 42)
    ∷ (Split 26 2 4, Number 6) ∷ (Split 26 3 3, Number 14) ∷ (Split 26 3 4, Number 1) ∷ (Split 26 4 3, Number 17)
    ∷ (Split 26 4 4, Number 6) ∷ (Split 26 5 3, Number 16) ∷ (Split 26 5 4, Number 5) ∷ (Split 26 6 3, Number 15)
    ∷ (Split 26 6 4, Number 1) ∷ (Split 26 6 5, Number 1) ∷ (Split 26 7 3, Number 31) ∷ (Split 26 7 4, Number 1)
    ∷ (Split 26 8 3, Number 26) ∷ (Split 26 8 4, Number 3) ∷ (PatternCell 1 2, Number 0)
    ∷ (PatternCell 1 4, Number 17) ∷ (PatternCell 27 3, Number 58) ∷ (PatternCell 27 4, Number 10)
    ∷ (PatternCell 27 5, Number 9) ∷ (PatternCell 37 2, Number 91) ∷ (PatternCell 37 3, Number 32)
    ∷ (PatternCell 37 4, Number 17) ∷ (PatternCell 37 5, Number 2) ∷ (PatternCell 39 2, Number 88)
    ∷ (PatternCell 39 4, Number 26) ∷ (PatternCell 39 5, Number 9) ∷ (PatternCell 48 2, Number 66)
    ∷ (PatternCell 48 4, Number 10) ∷ (PatternCell 48 5, Number 1) ∷ (PreemptCell 2 4, Number 4)
    ∷ (PreemptCell 2 6, Number 4) ∷ (PreemptCell 2 8, Number 8) ∷ (PreemptCell 2 9, Number 8)
    ∷ (PreemptCell 2 10, Number 4) ∷ (PreemptCell 2 13, Octets (8 ∷ 2 ∷ []))
    ∷ (PreemptCell 2 15, Octets (3 ∷ 7 ∷ [])) ∷ (UnitCell 1, Number 4) ∷ (UnitCell 2, Number 2)
    ∷ (UnitCell 3, Number 92) ∷ (UnitCell 4, Number 27) ∷ (UnitCell 5, Number 14) ∷ (UnitCell 6, Number 1) ∷ []
    )

-- the tables after this download
abbrev pub mixed_sixth_download_1 : Tables
mixed_sixth_download_1 =
    with_cells mixed_sixth_tables (
    (Sequence 2 1, Octets (1 ∷ 7 ∷ 2 ∷ [])) ∷ (Sequence 2 2, Octets (6 ∷ 4 ∷ 3 ∷ 5 ∷ 8 ∷ [])) ∷ []
    )

-- the tables after this download
abbrev pub mixed_sixth_download_2 : Tables
mixed_sixth_download_2 =
    with_cells mixed_sixth_download_1 (
    (Sequence 3 1, Octets (1 ∷ 7 ∷ 2 ∷ [])) ∷ (Sequence 3 2, Octets (6 ∷ 3 ∷ 4 ∷ 5 ∷ 8 ∷ [])) ∷ []
    )

-- the tables after this download
abbrev pub mixed_sixth_download_3 : Tables
mixed_sixth_download_3 =
    with_cells mixed_sixth_download_2 (
    (Phase 7 8, Number 36) ∷ (Phase 7 21, Number 257) ∷ (Phase 8 8, Number 50) ∷ []
    )

-- the events of the cabinet, in order
abbrev pub mixed_sixth_timeline : List Step
mixed_sixth_timeline =
    after 7 (Input (Veh 6 true)) ∷ after 2 (Input (PreemptInput 2 true)) ∷ after 13 (Ask (request 1 1 2 4 46 243))
    ∷ after 0 (Input (Veh 2 true)) ∷ after 8 (Input (Button 2)) ∷ after 20 (Input (Veh 2 true))
    ∷ after 5 (Input (Button 6)) ∷ after 1 (Input (Veh 6 false)) ∷ after 7 (Cancel 4) ∷ after 4 (Input (Veh 5 true))
    ∷ after 0 (Input (PreemptInput 2 false)) ∷ after 1 (SetClock 1352) ∷ after 0 (Install mixed_sixth_download_1)
    ∷ after 10 (Input (Veh 15 false)) ∷ after 7 (Input (Veh 6 true)) ∷ after 11 (Input (Veh 3 true))
    ∷ after 7 (Input (Veh 2 false)) ∷ after 32 (Input (Veh 6 true)) ∷ after 2 (SetPattern 9)
    ∷ after 22 (Input (Veh 1 false)) ∷ after 8 (Input (Veh 1 false)) ∷ after 11 (Input (Veh 4 false))
    ∷ after 22 (SetPattern 39) ∷ after 12 (Install mixed_sixth_download_2) ∷ after 10 (Ask (request 4 1 2 2 16 21))
    ∷ after 2 (Input (Veh 5 false)) ∷ after 0 (Input (Button 5)) ∷ after 0 (SetPattern 48)
    ∷ after 3 (Input (Veh 5 false)) ∷ after 16 (Input (Veh 2 false)) ∷ after 40 (Input (Veh 4 false))
    ∷ after 28 (SetClock 1658) ∷ after 17 (SetPattern 37) ∷ after 9 (Input (Veh 3 true))
    ∷ after 7 (Input (Veh 6 true)) ∷ after 44 (Install mixed_sixth_download_3) ∷ after 26 (Input (Veh 5 true)) ∷ []

-- the history: these events, and the ticks after the last one
abbrev pub mixed_sixth_history : History
mixed_sixth_history = record { tables = mixed_sixth_tables; command = 39; clock = 1193; events = ticks 6 (told_in_order mixed_sixth_timeline []) }

-- the expected results, which an independent program computed; newest line first
abbrev pub mixed_sixth_told : HistoryTold
mixed_sixth_told = record {
  command = 37;
  clock = 1767;
  version = 3;
  requests = 3 ∷ 0 ∷ 0 ∷ 3 ∷ 0 ∷ 0 ∷ 0 ∷ 0 ∷ 0 ∷ 0 ∷ [];
  vehicle = 3 ∷ [];
  pedestrian = [];
  sums = record { counter = 406; target = 68119; command = 15242; clock = 628369; active = 0 };
  lines =
      line 400 (codes "RGRRGRRRRRRRRRRR") (codes "DWDDDDDDDDDDDDDD") (Coord 37) 0 517 3
      ∷ line 389 (codes "RRRRRCRRRRRRRRRR") (codes "DDDDDDDDDDDDDDDD") (Seek 37) 0 506 3
      ∷ line 387 (codes "RRRRRCRRRRRRRRRR") (codes "DDDDDDDDDDDDDDDD") (Seek 37) 0 504 2
      ∷ line 386 (codes "RRRRRYRRRRRRRRRR") (codes "DDDDDDDDDDDDDDDD") (Seek 37) 0 503 2
      ∷ line 385 (codes "CRRRRYRRRRRRRRRR") (codes "DDDDDDDDDDDDDDDD") (Seek 37) 0 502 2
      ∷ line 353 (codes "YRRRRYRRRRRRRRRR") (codes "DDDDDDDDDDDDDDDD") (Seek 37) 0 470 2
      ∷ line 343 (codes "GRRRRGRRRRRRRRRR") (codes "FDDDDDDDDDDDDDDD") (Seek 37) 0 460 2
      ∷ line 329 (codes "GRRRRGRRRRRRRRRR") (codes "WDDDDDDDDDDDDDDD") (Seek 37) 0 446 2
      ∷ line 303 (codes "GRRRRGRRRRRRRRRR") (codes "WDDDDDDDDDDDDDDD") (Coord 48) 5 267 2
      ∷ line 293 (codes "GRRRRGRRRRRRRRRR") (codes "WDDDDWDDDDDDDDDD") (Coord 48) 0 257 2
      ∷ line 284 (codes "RRYRRRCRRRRRRRRR") (codes "DDDDDDDDDDDDDDDD") (Seek 48) 0 248 2
      ∷ line 262 (codes "RRYRRRYRRRRRRRRR") (codes "DDDDDDDDDDDDDDDD") (Seek 48) 0 226 2
      ∷ line 252 (codes "RRGRRRYRRRRRRRRR") (codes "DDDDDDDDDDDDDDDD") (Seek 48) 0 216 2
      ∷ line 243 (codes "RRGRRRGRRRRRRRRR") (codes "DDDDDDDDDDDDDDDD") (Seek 48) 0 207 2
      ∷ line 242 (codes "RRGRRRGRRRRRRRRR") (codes "DDDDDDDDDDDDDDDD") (Exit 2) 0 0 2
      ∷ line 232 (codes "RCRRRRRRRRRRRRRR") (codes "DDDDDDDDDDDDDDDD") (Exit 2) 0 0 2
      ∷ line 223 (codes "RYRRRRRRRRRRRRRR") (codes "DDDDDDDDDDDDDDDD") (Exit 2) 0 0 2
      ∷ line 213 (codes "RYRRRRRYRRRRRRRR") (codes "DDDDDDDDDDDDDDDD") (Exit 2) 0 0 2
      ∷ line 197 (codes "RYRRRRRYRRRRRRRR") (codes "DDDDDDDDDDDDDDDD") (Exit 2) 0 0 1
      ∷ line 188 (codes "RGRRRRRYRRRRRRRR") (codes "DDDDDDDDDDDDDDDD") (Exit 2) 0 0 1
      ∷ line 148 (codes "RGRRRRRGRRRRRRRR") (codes "DDDDDDDDDDDDDDDD") (Dwell 2) 0 0 1
      ∷ line 147 (codes "RGRRRRRGRRRRRRRR") (codes "DDDDDDDDDDDDDDDD") (Entry 2) 0 0 1
      ∷ line 134 (codes "RRRRRCRRRRRRRRRR") (codes "DDDDDDDDDDDDDDDD") (Entry 2) 0 0 1
      ∷ line 133 (codes "RRRRRYRRRRRRRRRR") (codes "DDDDDDDDDDDDDDDD") (Entry 2) 0 0 1
      ∷ line 132 (codes "CRRRRYRRRRRRRRRR") (codes "DDDDDDDDDDDDDDDD") (Entry 2) 0 0 1
      ∷ line 100 (codes "YRRRRYRRRRRRRRRR") (codes "DDDDDDDDDDDDDDDD") (Entry 2) 0 0 1
      ∷ line 69 (codes "GRRRRGRRRRRRRRRR") (codes "DDDDDDDDDDDDDDDD") (Entry 2) 0 0 1
      ∷ line 61 (codes "GRRRRGRRRRRRRRRR") (codes "DDDDDDDDDDDDDDDD") (Entry 2) 0 0 0
      ∷ line 60 (codes "GRRRRGRRRRRRRRRR") (codes "DDDDDWDDDDDDDDDD") (Coord 39) 0 373 0
      ∷ [];
}
