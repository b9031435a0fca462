-- The history sets_emptied_again: its tables, its events, and the expected results.
use Rattle.std.specs.Prelude.{List, [], codes, ◌∷◌, true, false}
use Rattle.sig_types.specs.declared.frame.Field.TheVariants.{Veh, Preempt as PreemptInput}
use Rattle.sig_types.specs.declared.frame.Mode.TheVariants.{Seek, Coord, Entry, Track, Dwell}
use Rattle.sig_tables.specs.declared.tables.Tables.{Tables}
use Rattle.sig_tables.specs.declared.cells.Cell.TheVariants.{Phase, Sequence, Split, Pattern as PatternCell, Preempt as PreemptCell, Unit as UnitCell}
use Rattle.sig_tables.specs.Cells.{Number, Octets}
use Rattle.sig_tables.specs.Putting.{with_cells}
use Rattle.sig_tables.specs.Past.{Input, Install, History}
use Rattle.sig_tables.specs.Standard.{std8}
use Rattle.known_histories.specs.Timeline.{Step, ticks, told_in_order, after}
use Rattle.known_histories.specs.HistoryTold.{HistoryTold, line}

-- the opening tables of the cabinet
abbrev pub sets_emptied_again_tables : Tables
sets_emptied_again_tables =
    with_cells std8 (
    (Phase 1 20, Number 1) ∷ (Phase 1 23, Octets (10 ∷ [])) ∷ (Phase 2 20, Number 1) ∷ (Phase 2 21, Number 0)
    ∷ (Phase 3 20, Number 1) ∷ (Phase 3 21, Number 0) ∷ (Phase 4 4, Number 5) ∷ (Phase 4 5, Number 20)
    ∷ (Phase 4 6, Number 20) ∷ (Phase 4 8, Number 35) ∷ (Phase 4 9, Number 10) ∷ (Phase 4 20, Number 1)
    ∷ (Phase 4 21, Number 1) ∷ (Phase 4 23, Octets (5 ∷ 16 ∷ 2 ∷ [])) ∷ (Phase 5 4, Number 0)
    ∷ (Phase 5 5, Number 24) ∷ (Phase 5 6, Number 15) ∷ (Phase 5 8, Number 31) ∷ (Phase 5 9, Number 7)
    ∷ (Phase 5 10, Number 15) ∷ (Phase 5 20, Number 4) ∷ (Phase 5 23, Octets (14 ∷ 15 ∷ 4 ∷ []))
    ∷ (Phase 6 20, Number 1) ∷ (Phase 6 21, Number 0) ∷ (Phase 7 4, Number 2) ∷ (Phase 7 5, Number 1)
    ∷ (Phase 7 6, Number 6) ∷ (Phase 7 9, Number 4) ∷ (Phase 7 10, Number 38) ∷ (Phase 7 20, Number 1)
    ∷ (Phase 7 22, Number 1) ∷ (Phase 7 23, Octets (10 ∷ [])) ∷ (Phase 8 20, Number 1) ∷ (Phase 8 21, Number 0)
    ∷ (Phase 10 4, Number 5) ∷ (Phase 10 5, Number 9) ∷ (Phase 10 8, Number 40) ∷ (Phase 10 9, Number 23)
    ∷ (Phase 10 10, Number 31) ∷ (Phase 10 21, Number 1) ∷ (Phase 10 22, Number 2)
    ∷ (Phase 10 23, Octets (11 ∷ 7 ∷ 1 ∷ 12 ∷ [])) ∷ (Phase 11 4, Number 15) ∷ (Phase 11 5, Number 23)
    ∷ (Phase 11 6, Number 28) ∷ (Phase 11 8, Number 57) ∷ (Phase 11 9, Number 23) ∷ (Phase 11 10, Number 1)
    ∷ (Phase 11 21, Number 1) ∷ (Phase 11 22, Number 1) ∷ (Phase 11 23, Octets (10 ∷ [])) ∷ (Phase 12 2, Number 5)
    ∷ (Phase 12 3, Number 3) ∷ (Phase 12 5, Number 34) ∷ (Phase 12 6, Number 33) ∷ (Phase 12 8, Number 35)
    ∷ (Phase 12 9, Number 23) ∷ (Phase 12 10, Number 27) ∷ (Phase 12 21, Number 1) ∷ (Phase 12 22, Number 1)
    ∷ (Phase 12 23, Octets (10 ∷ [])) ∷ (Phase 14 4, Number 5) ∷ (Phase 14 5, Number 6) ∷ (Phase 14 8, Number 34)
    ∷ (Phase 14 9, Number 13) ∷ (Phase 14 10, Number 21) ∷ (Phase 14 21, Number 1) ∷ (Phase 14 22, Number 1)
    ∷ (Phase 14 23, Octets (16 ∷ 5 ∷ [])) ∷ (Phase 15 2, Number 4) ∷ (Phase 15 3, Number 5) ∷ (Phase 15 4, Number 4)
    ∷ (Phase 15 5, Number 21) ∷ (Phase 15 6, Number 27) ∷ (Phase 15 8, Number 34) ∷ (Phase 15 9, Number 10)
    ∷ (Phase 15 10, Number 26) ∷ (Phase 15 20, Number 3) ∷ (Phase 15 21, Number 1) ∷ (Phase 15 22, Number 1)
    ∷ (Phase 15 23, Octets (5 ∷ 16 ∷ [])) ∷ (Phase 16 4, Number 5) ∷ (Phase 16 5, Number 13) ∷ (Phase 16 6, Number 4)
    ∷ (Phase 16 8, Number 32) ∷ (Phase 16 10, Number 18) ∷ (Phase 16 21, Number 1) ∷ (Phase 16 22, Number 2)
    ∷ (Phase 16 23, Octets (15 ∷ 14 ∷ 4 ∷ [])) ∷ (Sequence 1 1, Octets (4 ∷ 15 ∷ 14 ∷ 1 ∷ 11 ∷ 12 ∷ 7 ∷ []))
    ∷ (Sequence 1 2, Octets (16 ∷ 5 ∷ 10 ∷ [])) ∷ (Sequence 3 1, Octets (1 ∷ 11 ∷ 7 ∷ 12 ∷ 4 ∷ 15 ∷ 14 ∷ []))
    ∷ (Sequence 3 2, Octets (10 ∷ 5 ∷ 16 ∷ [])) ∷ (Split 6 1 3, Number 18) ∷ (Split 6 4 3, Number 29)
    ∷ (Split 6 4 4, Number 6) ∷ (Split 6 5 3, Number 30) ∷ (Split 6 5 4, Number 3) ∷ (Split 6 5 5, Number 1)
    ∷ (Split 6 7 3, Number 13) ∷ (Split 6 7 4, Number 7) ∷ (Split 6 10 3, Number 75) ∷ (Split 6 10 4, Number 6)
    ∷ (Split 6 11 3, Number 24) ∷ (Split 6 12 3, Number 20) ∷ (Split 6 14 3, Number 14) ∷ (Split 6 14 4, Number 1)
    ∷ (Split 6 14 5, Number 1) ∷ (Split 6 15 4, Number 7) ∷ (Split 6 16 3, Number 13) ∷ (Split 6 16 4, Number 7)
    ∷ (Split 11 1 3, Number 13) ∷ (Split 11 4 3, Number 24) ∷ (Split 11 4 4, Number 4) ∷ (Split 11 5 3, Number 5)
    ∷ (Split 11 5 4, Number 3) ∷ (Split 11 7 3, Number 15) ∷ (Split 11 7 4, Number 3) ∷ (Split 11 10 3, Number 77)
    ∷ (Split 11 10 4, Number 1) ∷ (Split 11 11 3, Number 28) ∷ (Split 11 11 4, Number 4) ∷ (Split 11 12 3, Number 21)
    ∷ (Split 11 14 3, Number 13) ∷ (Split 11 15 3, Number 21) ∷ (Split 11 15 5, Number 1)
    ∷ (Split 11 16 3, Number 53) ∷ (Split 11 16 4, Number 3) ∷ (Split 11 16 5, Number 1)
    ∷ (PatternCell 1 2, Number 135) ∷ (PatternCell 1 4, Number 11) ∷ (PatternCell 31 4, Number 6)
    ∷ (PatternCell 31 5, Number 3) ∷ (PreemptCell 2 6, Number 8) ∷ (PreemptCell 2 7, Number 2)
    ∷ (PreemptCell 2 8, Number 7) ∷ (PreemptCell 2 9, Number 2) ∷ (PreemptCell 2 10, Number 4)
    ∷ (PreemptCell 2 12, Octets (1 ∷ [])) ∷ (PreemptCell 2 13, Octets (11 ∷ 10 ∷ []))
    ∷ (PreemptCell 2 15, Octets (10 ∷ 1 ∷ [])) ∷ (PreemptCell 5 4, Number 1) ∷ (PreemptCell 5 5, Number 26)
    ∷ (PreemptCell 5 6, Number 6) ∷ (PreemptCell 5 7, Number 4) ∷ (PreemptCell 5 9, Number 6)
    ∷ (PreemptCell 5 12, Octets (10 ∷ 12 ∷ [])) ∷ (PreemptCell 5 13, Octets (16 ∷ 15 ∷ []))
    ∷ (PreemptCell 5 15, Octets (14 ∷ [])) ∷ (PreemptCell 6 4, Number 1) ∷ (PreemptCell 6 5, Number 3)
    ∷ (PreemptCell 6 6, Number 8) ∷ (PreemptCell 6 7, Number 2) ∷ (PreemptCell 6 8, Number 1)
    ∷ (PreemptCell 6 9, Number 7) ∷ (PreemptCell 6 13, Octets (11 ∷ 10 ∷ []))
    ∷ (PreemptCell 6 15, Octets (10 ∷ 12 ∷ [])) ∷ (UnitCell 1, Number 3) ∷ (UnitCell 2, Number 363)
    ∷ (UnitCell 3, Number 154) ∷ (UnitCell 4, Number 76) ∷ (UnitCell 6, Number 1) ∷ []
    )

-- the tables after this download
abbrev pub sets_emptied_again_download_1 : Tables
sets_emptied_again_download_1 =
    with_cells sets_emptied_again_tables (
    (PreemptCell 6 15, Octets ([])) ∷ []
    )

-- the tables after this download
abbrev pub sets_emptied_again_download_2 : Tables
sets_emptied_again_download_2 =
    with_cells sets_emptied_again_download_1 (
    (PreemptCell 2 15, Octets ([])) ∷ (PreemptCell 5 15, Octets ([])) ∷ []
    )

-- the tables after this download
abbrev pub sets_emptied_again_download_3 : Tables
sets_emptied_again_download_3 =
    with_cells sets_emptied_again_download_2 (
    (PreemptCell 2 12, Octets ([])) ∷ (PreemptCell 5 12, Octets ([])) ∷ []
    )

-- the tables after this download
abbrev pub sets_emptied_again_download_4 : Tables
sets_emptied_again_download_4 =
    with_cells sets_emptied_again_download_3 (
    []
    )

-- the tables after this download
abbrev pub sets_emptied_again_download_5 : Tables
sets_emptied_again_download_5 =
    with_cells sets_emptied_again_download_4 (
    []
    )

-- the tables after this download
abbrev pub sets_emptied_again_download_6 : Tables
sets_emptied_again_download_6 =
    with_cells sets_emptied_again_download_5 (
    []
    )

-- the events of the cabinet, in order
abbrev pub sets_emptied_again_timeline : List Step
sets_emptied_again_timeline =
    after 10 (Input (Veh 11 true)) ∷ after 21 (Input (Veh 15 false)) ∷ after 24 (Input (PreemptInput 2 false))
    ∷ after 31 (Input (Veh 1 false)) ∷ after 7 (Install sets_emptied_again_download_1)
    ∷ after 57 (Input (Veh 7 false)) ∷ after 2 (Install sets_emptied_again_download_2)
    ∷ after 28 (Input (PreemptInput 2 true)) ∷ after 27 (Input (PreemptInput 2 false))
    ∷ after 26 (Install sets_emptied_again_download_3) ∷ after 3 (Input (Veh 14 false))
    ∷ after 3 (Input (Veh 14 true)) ∷ after 13 (Install sets_emptied_again_download_4)
    ∷ after 1 (Input (PreemptInput 5 false)) ∷ after 7 (Input (Veh 7 true)) ∷ after 20 (Input (Veh 5 false))
    ∷ after 17 (Input (Veh 12 false)) ∷ after 2 (Input (Veh 2 false)) ∷ after 20 (Input (PreemptInput 5 false))
    ∷ after 2 (Input (Veh 12 true)) ∷ after 2 (Install sets_emptied_again_download_5)
    ∷ after 0 (Input (Veh 12 false)) ∷ after 5 (Input (Veh 15 true)) ∷ after 0 (Input (Veh 10 false))
    ∷ after 27 (Input (Veh 12 false)) ∷ after 15 (Install sets_emptied_again_download_6)
    ∷ after 12 (Input (PreemptInput 1 false)) ∷ after 25 (Input (Veh 14 true)) ∷ []

-- the history: these events, and the ticks after the last one
abbrev pub sets_emptied_again_history : History
sets_emptied_again_history = record { tables = sets_emptied_again_tables; command = 1; clock = 863655; events = ticks 13 (told_in_order sets_emptied_again_timeline []) }

-- the expected results, which an independent program computed; newest line first
abbrev pub sets_emptied_again_told : HistoryTold
sets_emptied_again_told = record {
  command = 1;
  clock = 75;
  version = 6;
  requests = 0 ∷ 0 ∷ 0 ∷ 0 ∷ 0 ∷ 0 ∷ 0 ∷ 0 ∷ 0 ∷ 0 ∷ [];
  vehicle = 7 ∷ 12 ∷ 14 ∷ 15 ∷ [];
  pedestrian = [];
  sums = record { counter = 884; target = 138870; command = 420; clock = 297159510; active = 0 };
  lines =
      line 400 (codes "RRRRRRRRRCGRRRRR") (codes "DDDDDDDDDDDDDDDD") (Seek 1) 0 55 6
      ∷ line 371 (codes "RRRRRRRRRYGRRRRR") (codes "DDDDDDDDDDDDDDDD") (Seek 1) 0 26 6
      ∷ line 360 (codes "RRRRRRRRRYGRRRRR") (codes "DDDDDDDDDDDDDDDD") (Seek 1) 0 15 5
      ∷ line 324 (codes "RRRRRRRRRGGRRRRR") (codes "DDDDDDDDDDDDDDDD") (Dwell 2) 0 0 5
      ∷ line 320 (codes "RRRRRRRRRGGRRRRR") (codes "DDDDDDDDDDDDDDDD") (Dwell 2) 0 0 4
      ∷ line 310 (codes "CRRRRRRRRGRRRRRR") (codes "DDDDDDDDDDDDDDDD") (Dwell 2) 0 0 4
      ∷ line 275 (codes "YRRRRRRRRGRRRRRR") (codes "DDDDDDDDDDDDDDDD") (Dwell 2) 0 0 4
      ∷ line 253 (codes "GRRRRRRRRGRRRRRR") (codes "DDDDDDDDDDDDDDDD") (Dwell 2) 0 0 4
      ∷ line 246 (codes "GRRRRRRRRGRRRRRR") (codes "DDDDDDDDDDDDDDDD") (Dwell 2) 0 0 3
      ∷ line 234 (codes "GRRRRRRRRGRRRRRR") (codes "DDDDDDDDDDDDDDDD") (Track 2) 0 0 3
      ∷ line 226 (codes "GRRRRRRRRRRRRRRR") (codes "DDDDDDDDDDDDDDDD") (Track 2) 0 0 2
      ∷ line 225 (codes "GRRRRRRRRRRRRRRR") (codes "DDDDDDDDDDDDDDDD") (Entry 2) 0 0 2
      ∷ line 215 (codes "RRRRRRRRRRRRRRCR") (codes "DDDDDDDDDDDDDDDD") (Entry 2) 0 0 2
      ∷ line 213 (codes "RRRRRRRRRRRRRRYR") (codes "DDDDDDDDDDDDDDDD") (Entry 2) 0 0 2
      ∷ line 181 (codes "RRRRRRRRRRRRRRYY") (codes "DDDDDDDDDDDDDDDD") (Entry 2) 0 0 2
      ∷ line 153 (codes "RRRRRRRRRRRRRRGG") (codes "DDDDDDDDDDDDDDDD") (Coord 1) 0 1158 2
      ∷ line 150 (codes "RRRRRRRRRRRRRRGG") (codes "DDDDDDDDDDDDDDDD") (Coord 1) 25 1155 1
      ∷ line 100 (codes "RRRRRRRRRRRRRRGG") (codes "DDDDDDDDDDDDDDFD") (Coord 1) 0 1105 1
      ∷ line 99 (codes "RRRRRRRRRRRRRRGG") (codes "DDDDDDDDDDDDDDWD") (Coord 1) 0 1104 1
      ∷ line 94 (codes "RRRRCRRRRRRRRRGR") (codes "DDDDDDDDDDDDDDWD") (Seek 1) 0 1099 1
      ∷ line 92 (codes "RRRRCRRRRRRRRRGR") (codes "DDDDDDDDDDDDDDWD") (Seek 1) 0 1097 0
      ∷ line 61 (codes "RRRRYRRRRRRRRRGR") (codes "DDDDDDDDDDDDDDWD") (Seek 1) 0 1066 0
      ∷ line 60 (codes "RRRRGRRRRRRRRRGR") (codes "DDDDDDDDDDDDDDWD") (Seek 1) 0 1065 0
      ∷ [];
}
