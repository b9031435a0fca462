-- The history stands_and_skips: its tables, its events, and the expected results.
use Rattle.std.specs.Prelude.{List, [], codes, ◌∷◌, true, false}
use Rattle.sig_types.specs.declared.frame.Field.TheVariants.{Veh, Ped as Button}
use Rattle.sig_types.specs.declared.frame.Mode.TheVariants.{Seek, Coord}
use Rattle.sig_tables.specs.declared.tables.Tables.{Tables}
use Rattle.sig_tables.specs.declared.cells.Cell.TheVariants.{Phase, Sequence, Split, Pattern as PatternCell, Unit as UnitCell}
use Rattle.sig_tables.specs.Cells.{Number, Octets}
use Rattle.sig_tables.specs.Putting.{with_cells}
use Rattle.sig_tables.specs.Past.{Input, SetClock, History}
use Rattle.sig_tables.specs.Standard.{std8}
use Rattle.known_histories.specs.Timeline.{Step, ticks, told_in_order, after}
use Rattle.known_histories.specs.HistoryTold.{HistoryTold, line}

-- the opening tables of the cabinet
abbrev pub stands_and_skips_tables : Tables
stands_and_skips_tables =
    with_cells std8 (
    (Phase 1 20, Number 1) ∷ (Phase 1 22, Number 2) ∷ (Phase 1 23, Octets (7 ∷ [])) ∷ (Phase 2 2, Number 3)
    ∷ (Phase 2 3, Number 0) ∷ (Phase 2 4, Number 2) ∷ (Phase 2 5, Number 3) ∷ (Phase 2 6, Number 8)
    ∷ (Phase 2 8, Number 33) ∷ (Phase 2 9, Number 11) ∷ (Phase 2 10, Number 0) ∷ (Phase 2 20, Number 1)
    ∷ (Phase 2 21, Number 1) ∷ (Phase 2 23, Octets (4 ∷ [])) ∷ (Phase 3 4, Number 0) ∷ (Phase 3 5, Number 30)
    ∷ (Phase 3 6, Number 12) ∷ (Phase 3 8, Number 31) ∷ (Phase 3 9, Number 12) ∷ (Phase 3 10, Number 26)
    ∷ (Phase 3 20, Number 1) ∷ (Phase 3 21, Number 1153) ∷ (Phase 3 22, Number 2) ∷ (Phase 3 23, Octets (8 ∷ []))
    ∷ (Phase 4 2, Number 1) ∷ (Phase 4 3, Number 1) ∷ (Phase 4 4, Number 6) ∷ (Phase 4 5, Number 20)
    ∷ (Phase 4 6, Number 2) ∷ (Phase 4 8, Number 30) ∷ (Phase 4 9, Number 13) ∷ (Phase 4 10, Number 27)
    ∷ (Phase 4 20, Number 1) ∷ (Phase 4 22, Number 2) ∷ (Phase 4 23, Octets (2 ∷ [])) ∷ (Phase 5 20, Number 3)
    ∷ (Phase 5 21, Number 1153) ∷ (Phase 5 23, Octets (6 ∷ [])) ∷ (Phase 6 2, Number 3) ∷ (Phase 6 3, Number 4)
    ∷ (Phase 6 4, Number 3) ∷ (Phase 6 5, Number 31) ∷ (Phase 6 6, Number 2) ∷ (Phase 6 8, Number 31)
    ∷ (Phase 6 9, Number 0) ∷ (Phase 6 10, Number 1) ∷ (Phase 6 20, Number 1) ∷ (Phase 6 21, Number 1)
    ∷ (Phase 6 22, Number 1) ∷ (Phase 6 23, Octets (5 ∷ [])) ∷ (Phase 7 20, Number 1) ∷ (Phase 7 21, Number 97)
    ∷ (Phase 7 22, Number 1) ∷ (Phase 7 23, Octets (1 ∷ [])) ∷ (Phase 8 4, Number 5) ∷ (Phase 8 5, Number 20)
    ∷ (Phase 8 6, Number 20) ∷ (Phase 8 8, Number 35) ∷ (Phase 8 9, Number 10) ∷ (Phase 8 20, Number 1)
    ∷ (Phase 8 21, Number 1) ∷ (Phase 8 22, Number 1) ∷ (Phase 8 23, Octets (3 ∷ []))
    ∷ (Sequence 1 1, Octets (8 ∷ 2 ∷ 6 ∷ 7 ∷ [])) ∷ (Sequence 1 2, Octets (3 ∷ 4 ∷ 5 ∷ 1 ∷ []))
    ∷ (Split 24 1 3, Number 10) ∷ (Split 24 1 4, Number 5) ∷ (Split 24 2 3, Number 15) ∷ (Split 24 2 4, Number 6)
    ∷ (Split 24 2 5, Number 1) ∷ (Split 24 3 3, Number 24) ∷ (Split 24 4 3, Number 15) ∷ (Split 24 4 5, Number 1)
    ∷ (Split 24 5 3, Number 12) ∷ (Split 24 6 3, Number 12) ∷ (Split 24 6 4, Number 7) ∷ (Split 24 7 3, Number 10)
    ∷ (Split 24 8 3, Number 24) ∷ (Split 24 8 4, Number 1) ∷ (Split 25 1 3, Number 21) ∷ (Split 25 1 4, Number 3)
    ∷ (Split 25 1 5, Number 1) ∷ (Split 25 2 3, Number 16) ∷ (Split 25 2 4, Number 4) ∷ (Split 25 3 3, Number 25)
    ∷ (Split 25 3 4, Number 3) ∷ (Split 25 4 3, Number 16) ∷ (Split 25 5 3, Number 14) ∷ (Split 25 5 4, Number 7)
    ∷ (Split 25 6 3, Number 14) ∷ (Split 25 6 4, Number 3) ∷ (Split 25 7 3, Number 21) ∷ (Split 25 7 4, Number 6)
    ∷ (Split 25 7 5, Number 1) ∷ (Split 25 8 3, Number 25) ∷ (Split 25 8 4, Number 1) ∷ (Split 31 1 3, Number 11)
    ∷ (Split 31 1 4, Number 1) ∷ (Split 31 2 3, Number 11) ∷ (Split 31 2 4, Number 7) ∷ (Split 31 3 3, Number 27)
    ∷ (Split 31 3 5, Number 1) ∷ (Split 31 4 3, Number 11) ∷ (Split 31 4 4, Number 5) ∷ (Split 31 5 3, Number 14)
    ∷ (Split 31 6 3, Number 14) ∷ (Split 31 6 4, Number 1) ∷ (Split 31 7 3, Number 11) ∷ (Split 31 8 3, Number 27)
    ∷ (Split 31 8 4, Number 5) ∷ (Split 31 8 5, Number 1) ∷ (PatternCell 1 2, Number 76)
    ∷ (PatternCell 1 4, Number 25) ∷ (PatternCell 10 2, Number 61) ∷ (PatternCell 10 3, Number 51)
    ∷ (PatternCell 10 4, Number 24) ∷ (PatternCell 10 5, Number 1) ∷ (PatternCell 44 2, Number 63)
    ∷ (PatternCell 44 3, Number 44) ∷ (PatternCell 44 4, Number 31) ∷ (PatternCell 44 5, Number 1)
    ∷ (UnitCell 1, Number 3) ∷ (UnitCell 2, Number 94) ∷ (UnitCell 3, Number 91) ∷ (UnitCell 4, Number 28) ∷ []
    )

-- the events of the cabinet, in order
abbrev pub stands_and_skips_timeline : List Step
stands_and_skips_timeline =
    after 53 (Input (Veh 1 false)) ∷ after 15 (Input (Veh 1 false)) ∷ after 25 (Input (Veh 6 false))
    ∷ after 7 (Input (Veh 15 false)) ∷ after 59 (Input (Veh 5 true)) ∷ after 3 (Input (Button 3))
    ∷ after 6 (Input (Veh 7 false)) ∷ after 2 (Input (Veh 1 true)) ∷ after 78 (Input (Button 9))
    ∷ after 14 (Input (Button 5)) ∷ after 66 (Input (Veh 2 false)) ∷ after 15 (Input (Button 8))
    ∷ after 4 (Input (Veh 4 true)) ∷ after 8 (Input (Veh 6 false)) ∷ after 20 (SetClock 124)
    ∷ after 1 (SetClock 71730) ∷ after 31 (Input (Veh 7 true)) ∷ after 21 (Input (Veh 2 true))
    ∷ after 32 (Input (Veh 7 true)) ∷ after 37 (Input (Veh 5 false)) ∷ after 21 (Input (Veh 6 false)) ∷ []

-- the history: these events, and the ticks after the last one
abbrev pub stands_and_skips_history : History
stands_and_skips_history = record { tables = stands_and_skips_tables; command = 44; clock = 863708; events = ticks 2 (told_in_order stands_and_skips_timeline []) }

-- the expected results, which an independent program computed; newest line first
abbrev pub stands_and_skips_told : HistoryTold
stands_and_skips_told = record {
  command = 44;
  clock = 71874;
  version = 0;
  requests = 0 ∷ 0 ∷ 0 ∷ 0 ∷ 0 ∷ 0 ∷ 0 ∷ 0 ∷ 0 ∷ 0 ∷ [];
  vehicle = 1 ∷ 2 ∷ 5 ∷ [];
  pedestrian = 8 ∷ [];
  sums = record { counter = 49759; target = 124293; command = 22880; clock = 261724685; active = 0 };
  lines =
      line 508 (codes "RRRGRRRRRRRRRRRR") (codes "DDDDDDDDDDDDDDDD") (Coord 44) 290 232 0
      ∷ line 498 (codes "RRRGRRRRRRRRRRRR") (codes "DDDFDDDDDDDDDDDD") (Coord 44) 280 222 0
      ∷ line 488 (codes "RRRGRRRRRRRRRRRR") (codes "DDDWDDDDDDDDDDDD") (Coord 44) 270 212 0
      ∷ line 486 (codes "RRRRRRRCRRRRRRRR") (codes "DDDDDDDDDDDDDDDD") (Coord 44) 268 210 0
      ∷ line 478 (codes "RRCRRRRCRRRRRRRR") (codes "DDDDDDDDDDDDDDDD") (Coord 44) 260 202 0
      ∷ line 474 (codes "RRCRRRRYRRRRRRRR") (codes "DDDDDDDDDDDDDDDD") (Coord 44) 256 198 0
      ∷ line 443 (codes "RRYRRRRYRRRRRRRR") (codes "DDDDDDDDDDDDDDDD") (Coord 44) 225 167 0
      ∷ line 345 (codes "RRGRRRRGRRRRRRRR") (codes "DDDDDDDDDDDDDDDD") (Coord 44) 150 243 0
      ∷ line 225 (codes "RRGRRRRGRRRRRRRR") (codes "DDDDDDDFDDDDDDDD") (Coord 44) 35 393 0
      ∷ line 155 (codes "RRGRRRRGRRRRRRRR") (codes "DDDDDDDWDDDDDDDD") (Coord 44) 0 323 0
      ∷ line 145 (codes "RRRRCRRRRRRRRRRR") (codes "DDDDDDDDDDDDDDDD") (Seek 44) 0 313 0
      ∷ line 110 (codes "RRRRYRRRRRRRRRRR") (codes "DDDDDDDDDDDDDDDD") (Seek 44) 0 278 0
      ∷ line 60 (codes "RRRRGRRRRRRRRRRR") (codes "DDDDDDDDDDDDDDDD") (Seek 44) 0 228 0
      ∷ [];
}
