-- The history mixed_drifting: its tables, its events, and the expected results.
use Rattle.std.specs.Prelude.{List, [], codes, ◌∷◌, true, false}
use Rattle.sig_types.specs.declared.frame.Field.TheVariants.{Veh, Ped as Button, Preempt as PreemptInput}
use Rattle.sig_types.specs.declared.frame.Mode.TheVariants.{Seek, Coord, Entry, Track, Dwell}
use Rattle.sig_tables.specs.declared.tables.Tables.{Tables}
use Rattle.sig_tables.specs.declared.cells.Cell.TheVariants.{Phase, Sequence, Split, Pattern as PatternCell, Preempt as PreemptCell, Unit as UnitCell}
use Rattle.sig_tables.specs.Cells.{Number, Octets}
use Rattle.sig_tables.specs.Putting.{with_cells}
use Rattle.sig_tables.specs.Past.{Input, Install, SetPattern, Ask, Cancel, SetDrift, History}
use Rattle.sig_tables.specs.Standard.{std8}
use Rattle.known_histories.specs.Timeline.{Step, ticks, told_in_order, after, request}
use Rattle.known_histories.specs.HistoryTold.{HistoryTold, line}

-- the opening tables of the cabinet
abbrev pub mixed_drifting_tables : Tables
mixed_drifting_tables =
    with_cells std8 (
    (Phase 1 20, Number 1) ∷ (Phase 1 21, Number 0) ∷ (Phase 2 20, Number 1) ∷ (Phase 2 21, Number 0)
    ∷ (Phase 3 20, Number 1) ∷ (Phase 3 21, Number 0) ∷ (Phase 4 20, Number 1) ∷ (Phase 4 21, Number 0)
    ∷ (Phase 5 20, Number 1) ∷ (Phase 5 21, Number 0) ∷ (Phase 6 2, Number 2) ∷ (Phase 6 3, Number 0)
    ∷ (Phase 6 4, Number 2) ∷ (Phase 6 5, Number 8) ∷ (Phase 6 6, Number 20) ∷ (Phase 6 8, Number 33)
    ∷ (Phase 6 9, Number 14) ∷ (Phase 6 10, Number 4) ∷ (Phase 6 20, Number 3) ∷ (Phase 6 21, Number 33827)
    ∷ (Phase 6 23, Octets (13 ∷ [])) ∷ (Phase 7 2, Number 4) ∷ (Phase 7 3, Number 1) ∷ (Phase 7 4, Number 4)
    ∷ (Phase 7 5, Number 16) ∷ (Phase 7 6, Number 12) ∷ (Phase 7 8, Number 31) ∷ (Phase 7 9, Number 5)
    ∷ (Phase 7 10, Number 39) ∷ (Phase 7 20, Number 1) ∷ (Phase 7 22, Number 1) ∷ (Phase 7 23, Octets (15 ∷ []))
    ∷ (Phase 8 20, Number 1) ∷ (Phase 8 21, Number 0) ∷ (Phase 9 4, Number 4) ∷ (Phase 9 5, Number 8)
    ∷ (Phase 9 6, Number 25) ∷ (Phase 9 8, Number 35) ∷ (Phase 9 9, Number 6) ∷ (Phase 9 10, Number 14)
    ∷ (Phase 9 21, Number 1) ∷ (Phase 9 22, Number 2) ∷ (Phase 9 23, Octets (12 ∷ [])) ∷ (Phase 12 4, Number 4)
    ∷ (Phase 12 5, Number 1) ∷ (Phase 12 6, Number 11) ∷ (Phase 12 8, Number 30) ∷ (Phase 12 9, Number 23)
    ∷ (Phase 12 21, Number 1313) ∷ (Phase 12 22, Number 1) ∷ (Phase 12 23, Octets (9 ∷ [])) ∷ (Phase 13 2, Number 1)
    ∷ (Phase 13 3, Number 6) ∷ (Phase 13 4, Number 5) ∷ (Phase 13 5, Number 9) ∷ (Phase 13 6, Number 24)
    ∷ (Phase 13 8, Number 30) ∷ (Phase 13 10, Number 2) ∷ (Phase 13 21, Number 1) ∷ (Phase 13 22, Number 1)
    ∷ (Phase 13 23, Octets (6 ∷ [])) ∷ (Phase 15 2, Number 6) ∷ (Phase 15 4, Number 1) ∷ (Phase 15 5, Number 35)
    ∷ (Phase 15 6, Number 32) ∷ (Phase 15 8, Number 34) ∷ (Phase 15 9, Number 12) ∷ (Phase 15 10, Number 32)
    ∷ (Phase 15 21, Number 32835) ∷ (Phase 15 22, Number 2) ∷ (Phase 15 23, Octets (7 ∷ []))
    ∷ (Sequence 1 1, Octets (7 ∷ 12 ∷ 13 ∷ [])) ∷ (Sequence 1 2, Octets (15 ∷ 9 ∷ 6 ∷ [])) ∷ (Split 1 6 3, Number 22)
    ∷ (Split 1 6 4, Number 5) ∷ (Split 1 7 3, Number 16) ∷ (Split 1 9 3, Number 15) ∷ (Split 1 9 4, Number 4)
    ∷ (Split 1 12 3, Number 15) ∷ (Split 1 12 4, Number 3) ∷ (Split 1 13 3, Number 22) ∷ (Split 1 13 5, Number 1)
    ∷ (Split 1 15 3, Number 16) ∷ (Split 2 6 3, Number 16) ∷ (Split 2 6 4, Number 4) ∷ (Split 2 6 5, Number 1)
    ∷ (Split 2 7 3, Number 15) ∷ (Split 2 7 4, Number 1) ∷ (Split 2 9 3, Number 14) ∷ (Split 2 9 4, Number 3)
    ∷ (Split 2 12 3, Number 14) ∷ (Split 2 13 3, Number 16) ∷ (Split 2 13 4, Number 1) ∷ (Split 2 13 5, Number 1)
    ∷ (Split 2 15 3, Number 15) ∷ (Split 2 15 4, Number 5) ∷ (Split 4 6 3, Number 12) ∷ (Split 4 6 4, Number 5)
    ∷ (Split 4 7 3, Number 17) ∷ (Split 4 7 5, Number 1) ∷ (Split 4 9 3, Number 11) ∷ (Split 4 9 4, Number 6)
    ∷ (Split 4 12 3, Number 11) ∷ (Split 4 12 4, Number 4) ∷ (Split 4 13 3, Number 12) ∷ (Split 4 15 3, Number 17)
    ∷ (Split 4 15 5, Number 1) ∷ (Split 15 6 3, Number 19) ∷ (Split 15 6 4, Number 1) ∷ (Split 15 6 5, Number 1)
    ∷ (Split 15 7 3, Number 16) ∷ (Split 15 7 4, Number 7) ∷ (Split 15 9 3, Number 13) ∷ (Split 15 9 4, Number 7)
    ∷ (Split 15 12 3, Number 13) ∷ (Split 15 12 4, Number 3) ∷ (Split 15 13 3, Number 19) ∷ (Split 15 13 4, Number 1)
    ∷ (Split 15 13 5, Number 1) ∷ (Split 15 15 3, Number 16) ∷ (Split 15 15 4, Number 5)
    ∷ (PatternCell 1 2, Number 45) ∷ (PatternCell 1 3, Number 28) ∷ (PatternCell 1 4, Number 2)
    ∷ (PatternCell 11 2, Number 48) ∷ (PatternCell 11 3, Number 46) ∷ (PatternCell 11 4, Number 15)
    ∷ (PatternCell 11 5, Number 1) ∷ (PatternCell 12 2, Number 40) ∷ (PatternCell 12 4, Number 4)
    ∷ (PatternCell 12 5, Number 1) ∷ (PatternCell 16 2, Number 53) ∷ (PatternCell 16 3, Number 9)
    ∷ (PatternCell 16 4, Number 1) ∷ (PatternCell 16 5, Number 1) ∷ (PreemptCell 3 4, Number 1)
    ∷ (PreemptCell 3 6, Number 1) ∷ (PreemptCell 3 7, Number 1) ∷ (PreemptCell 3 8, Number 4)
    ∷ (PreemptCell 3 9, Number 4) ∷ (PreemptCell 3 10, Number 5) ∷ (PreemptCell 3 13, Octets (12 ∷ []))
    ∷ (PreemptCell 3 14, Octets (47 ∷ [])) ∷ (PreemptCell 4 4, Number 3) ∷ (PreemptCell 4 5, Number 6)
    ∷ (PreemptCell 4 6, Number 7) ∷ (PreemptCell 4 7, Number 3) ∷ (PreemptCell 4 8, Number 7)
    ∷ (PreemptCell 4 9, Number 4) ∷ (PreemptCell 4 10, Number 7) ∷ (PreemptCell 4 12, Octets (13 ∷ 6 ∷ []))
    ∷ (PreemptCell 4 13, Octets (15 ∷ [])) ∷ (PreemptCell 5 4, Number 1) ∷ (PreemptCell 5 5, Number 24)
    ∷ (PreemptCell 5 6, Number 7) ∷ (PreemptCell 5 7, Number 4) ∷ (PreemptCell 5 8, Number 7)
    ∷ (PreemptCell 5 9, Number 7) ∷ (PreemptCell 5 10, Number 2) ∷ (PreemptCell 5 12, Octets (6 ∷ 13 ∷ []))
    ∷ (PreemptCell 5 13, Octets (13 ∷ [])) ∷ (PreemptCell 5 14, Octets (153 ∷ [])) ∷ (PreemptCell 8 5, Number 27)
    ∷ (PreemptCell 8 6, Number 3) ∷ (PreemptCell 8 7, Number 2) ∷ (PreemptCell 8 8, Number 4)
    ∷ (PreemptCell 8 9, Number 1) ∷ (PreemptCell 8 12, Octets (6 ∷ 13 ∷ []))
    ∷ (PreemptCell 8 13, Octets (9 ∷ 12 ∷ [])) ∷ (PreemptCell 8 15, Octets (13 ∷ 6 ∷ [])) ∷ (UnitCell 1, Number 3)
    ∷ (UnitCell 2, Number 16) ∷ (UnitCell 3, Number 77) ∷ (UnitCell 4, Number 43) ∷ (UnitCell 6, Number 1)
    ∷ (UnitCell 7, Number 2) ∷ (UnitCell 8, Number 2) ∷ []
    )

-- the tables after this download
abbrev pub mixed_drifting_download_1 : Tables
mixed_drifting_download_1 =
    with_cells mixed_drifting_tables (
    (Phase 12 2, Number 1) ∷ (Phase 13 5, Number 2) ∷ []
    )

-- the tables after this download
abbrev pub mixed_drifting_download_2 : Tables
mixed_drifting_download_2 =
    with_cells mixed_drifting_download_1 (
    (Phase 6 2, Number 6) ∷ (Phase 6 3, Number 1) ∷ (Phase 6 10, Number 14) ∷ (Phase 7 8, Number 37)
    ∷ (Phase 9 9, Number 11) ∷ (Phase 15 8, Number 38) ∷ []
    )

-- the events of the cabinet, in order
abbrev pub mixed_drifting_timeline : List Step
mixed_drifting_timeline =
    after 0 (SetDrift 0 31) ∷ after 20 (Input (PreemptInput 4 false)) ∷ after 2 (Input (Button 9))
    ∷ after 0 (Input (Veh 9 false)) ∷ after 12 (SetPattern 1) ∷ after 22 (Input (PreemptInput 1 false))
    ∷ after 1 (Input (Veh 15 false)) ∷ after 0 (Input (Veh 15 true)) ∷ after 19 (Input (Veh 15 true))
    ∷ after 22 (Ask (request 1 2 2 7 36 169)) ∷ after 15 (Input (PreemptInput 4 false)) ∷ after 1 (Cancel 3)
    ∷ after 6 (Input (Veh 12 true)) ∷ after 1 (Input (Veh 12 true)) ∷ after 6 (Ask (request 3 1 2 15 60 225))
    ∷ after 1 (Install mixed_drifting_download_1) ∷ after 3 (Input (Button 13)) ∷ after 0 (Input (Veh 15 true))
    ∷ after 6 (Input (Veh 7 true)) ∷ after 9 (Ask (request 4 1 2 13 14 204)) ∷ after 10 (Input (Veh 7 false))
    ∷ after 11 (Input (Veh 9 true)) ∷ after 7 (Install mixed_drifting_download_2)
    ∷ after 0 (Input (PreemptInput 5 false)) ∷ after 6 (Input (PreemptInput 5 true)) ∷ after 6 (Input (Button 6))
    ∷ after 9 (Cancel 4) ∷ after 11 (Input (Button 13)) ∷ after 14 (Ask (request 2 1 2 13 7 79))
    ∷ after 43 (Input (Veh 13 true)) ∷ after 7 (Input (Veh 12 true)) ∷ after 16 (Input (Veh 11 true))
    ∷ after 11 (Input (Button 12)) ∷ after 22 (Input (Veh 6 false)) ∷ after 15 (Input (Button 7))
    ∷ after 7 (Input (Veh 13 false)) ∷ []

-- the history: these events, and the ticks after the last one
abbrev pub mixed_drifting_history : History
mixed_drifting_history = record { tables = mixed_drifting_tables; command = 1; clock = 863710; events = ticks 9 (told_in_order mixed_drifting_timeline []) }

-- the expected results, which an independent program computed; newest line first
abbrev pub mixed_drifting_told : HistoryTold
mixed_drifting_told = record {
  command = 1;
  clock = 49;
  version = 2;
  requests = 3 ∷ 3 ∷ 1 ∷ 4 ∷ 0 ∷ 0 ∷ 0 ∷ 0 ∷ 0 ∷ 0 ∷ [];
  vehicle = 7 ∷ 9 ∷ 11 ∷ 15 ∷ [];
  pedestrian = 6 ∷ 7 ∷ 12 ∷ 13 ∷ [];
  sums = record { counter = 6379; target = 14992; command = 350; clock = 257430110; active = 172 };
  lines =
      line 309 (codes "RRRRRRRRRRRRGRRR") (codes "DDDDDDDDDDDDDDDD") (Dwell 5) 0 0 2
      ∷ line 295 (codes "RRRRRCRRRRRRGRRR") (codes "DDDDDDDDDDDDDDDD") (Dwell 5) 0 0 2
      ∷ line 262 (codes "RRRRRYRRRRRRGRRR") (codes "DDDDDDDDDDDDDDDD") (Dwell 5) 0 0 2
      ∷ line 245 (codes "RRRRRGRRRRRRGRRR") (codes "DDDDDDDDDDDDDDDD") (Track 5) 0 0 2
      ∷ line 192 (codes "RRRRRGRRRRRRGRRR") (codes "DDDDDDDDDDDDFDDD") (Track 5) 0 0 2
      ∷ line 191 (codes "RRRRRGRRRRRRGRRR") (codes "DDDDDDDDDDDDFDDD") (Entry 5) 0 0 2
      ∷ line 185 (codes "RRRRRGRRRRRRGRRR") (codes "DDDDDDDDDDDDFDDD") (Coord 1) 5 173 2
      ∷ line 175 (codes "RRRRRGRRRRRRGRRR") (codes "DDDDDDDDDDDDWDDD") (Coord 1) 0 163 2
      ∷ line 129 (codes "RRRRRGRRRRRRGRRR") (codes "DDDDDDDDDDDDDDDD") (Coord 1) 0 118 1
      ∷ line 80 (codes "RRRRRGRRRRRRGRRR") (codes "DDDDDDDDDDDDDDDD") (Coord 1) 38 71 0
      ∷ line 61 (codes "RRRRRGRRRRRRGRRR") (codes "DDDDDWDDDDDDDDDD") (Coord 1) 0 53 0
      ∷ line 60 (codes "RRRRRGRRRRRRRRRR") (codes "DDDDDWDDDDDDDDDD") (Seek 1) 0 52 0
      ∷ [];
}
