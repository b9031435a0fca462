-- The history mixed_fourth: its tables, its events, and the expected results.
use Rattle.std.specs.Prelude.{List, [], codes, ◌∷◌, true, false}
use Rattle.sig_types.specs.declared.frame.Field.TheVariants.{Veh, Ped as Button, Preempt as PreemptInput}
use Rattle.sig_types.specs.declared.frame.Mode.TheVariants.{Free, Coord, Ending, Entry, Dwell, Exit}
use Rattle.sig_tables.specs.declared.tables.Tables.{Tables}
use Rattle.sig_tables.specs.declared.cells.Cell.TheVariants.{Phase, Sequence, Split, Pattern as PatternCell, Preempt as PreemptCell, Unit as UnitCell}
use Rattle.sig_tables.specs.Cells.{Number, Octets}
use Rattle.sig_tables.specs.Putting.{with_cells}
use Rattle.sig_tables.specs.Past.{Input, SetPattern, History}
use Rattle.sig_tables.specs.Standard.{std8}
use Rattle.known_histories.specs.Timeline.{Step, ticks, told_in_order, after}
use Rattle.known_histories.specs.HistoryTold.{HistoryTold, line}

-- the opening tables of the cabinet
abbrev pub mixed_fourth_tables : Tables
mixed_fourth_tables =
    with_cells std8 (
    (Phase 1 21, Number 129) ∷ (Phase 2 21, Number 1153) ∷ (Phase 3 21, Number 129) ∷ (Phase 4 21, Number 1153)
    ∷ (Phase 5 21, Number 129) ∷ (Phase 6 21, Number 1153) ∷ (Phase 7 21, Number 129) ∷ (Phase 8 21, Number 1153)
    ∷ (Sequence 2 1, Octets (3 ∷ 4 ∷ 1 ∷ 2 ∷ [])) ∷ (Sequence 2 2, Octets (8 ∷ 7 ∷ 5 ∷ 6 ∷ []))
    ∷ (Sequence 9 1, Octets (3 ∷ 4 ∷ 2 ∷ 1 ∷ [])) ∷ (Sequence 9 2, Octets (7 ∷ 8 ∷ 5 ∷ 6 ∷ []))
    ∷ (Sequence 10 1, Octets (4 ∷ 3 ∷ 2 ∷ 1 ∷ [])) ∷ (Sequence 10 2, Octets (8 ∷ 7 ∷ 6 ∷ 5 ∷ []))
    ∷ (Split 2 1 3, Number 12) ∷ (Split 2 1 4, Number 1) ∷ (Split 2 2 3, Number 27) ∷ (Split 2 2 4, Number 4)
    ∷ (Split 2 3 3, Number 11) ∷ (Split 2 3 4, Number 3) ∷ (Split 2 4 3, Number 34) ∷ (Split 2 4 5, Number 1)
    ∷ (Split 2 5 3, Number 12) ∷ (Split 2 5 4, Number 3) ∷ (Split 2 6 3, Number 27) ∷ (Split 2 6 4, Number 7)
    ∷ (Split 2 7 3, Number 19) ∷ (Split 2 7 4, Number 1) ∷ (Split 2 7 5, Number 1) ∷ (Split 2 8 3, Number 26)
    ∷ (Split 2 8 4, Number 1) ∷ (Split 19 1 3, Number 16) ∷ (Split 19 1 4, Number 5) ∷ (Split 19 2 3, Number 28)
    ∷ (Split 19 2 4, Number 4) ∷ (Split 19 3 3, Number 15) ∷ (Split 19 3 4, Number 5) ∷ (Split 19 4 3, Number 32)
    ∷ (Split 19 4 4, Number 5) ∷ (Split 19 4 5, Number 1) ∷ (Split 19 5 3, Number 14) ∷ (Split 19 5 4, Number 4)
    ∷ (Split 19 6 3, Number 30) ∷ (Split 19 6 4, Number 6) ∷ (Split 19 7 3, Number 12) ∷ (Split 19 8 3, Number 35)
    ∷ (Split 19 8 4, Number 6) ∷ (Split 19 8 5, Number 1) ∷ (Split 20 1 3, Number 11) ∷ (Split 20 2 3, Number 31)
    ∷ (Split 20 2 4, Number 3) ∷ (Split 20 2 5, Number 1) ∷ (Split 20 3 3, Number 11) ∷ (Split 20 4 3, Number 25)
    ∷ (Split 20 4 4, Number 5) ∷ (Split 20 5 3, Number 17) ∷ (Split 20 5 4, Number 3) ∷ (Split 20 5 5, Number 1)
    ∷ (Split 20 6 3, Number 25) ∷ (Split 20 6 4, Number 5) ∷ (Split 20 7 3, Number 11) ∷ (Split 20 8 3, Number 25)
    ∷ (Split 20 8 4, Number 1) ∷ (PatternCell 1 2, Number 0) ∷ (PatternCell 1 4, Number 2)
    ∷ (PatternCell 1 5, Number 2) ∷ (PatternCell 24 4, Number 20) ∷ (PatternCell 24 5, Number 10)
    ∷ (PatternCell 36 2, Number 91) ∷ (PatternCell 36 3, Number 55) ∷ (PatternCell 36 4, Number 19)
    ∷ (PatternCell 36 5, Number 9) ∷ (PreemptCell 6 4, Number 3) ∷ (PreemptCell 6 6, Number 2)
    ∷ (PreemptCell 6 8, Number 8) ∷ (PreemptCell 6 9, Number 1) ∷ (PreemptCell 6 10, Number 5)
    ∷ (PreemptCell 6 11, Number 13) ∷ (PreemptCell 6 13, Octets (7 ∷ [])) ∷ (PreemptCell 6 14, Octets (251 ∷ []))
    ∷ (PreemptCell 6 15, Octets (8 ∷ [])) ∷ (UnitCell 1, Number 4) ∷ (UnitCell 2, Number 2249)
    ∷ (UnitCell 3, Number 213) ∷ (UnitCell 4, Number 54) ∷ []
    )

-- the events of the cabinet, in order
abbrev pub mixed_fourth_timeline : List Step
mixed_fourth_timeline =
    after 8 (SetPattern 0) ∷ after 16 (Input (PreemptInput 6 true)) ∷ after 2 (Input (Veh 4 true))
    ∷ after 18 (Input (Veh 2 false)) ∷ after 10 (Input (Veh 7 true)) ∷ after 36 (Input (Veh 4 true))
    ∷ after 9 (Input (Veh 4 false)) ∷ after 1 (Input (Veh 8 true)) ∷ after 0 (Input (Veh 8 false))
    ∷ after 1 (Input (PreemptInput 6 true)) ∷ after 0 (Input (Button 7)) ∷ after 32 (Input (Veh 6 false))
    ∷ after 6 (SetPattern 255) ∷ after 6 (Input (Button 6)) ∷ after 1 (Input (Veh 4 true))
    ∷ after 6 (Input (Veh 5 true)) ∷ after 2 (Input (Veh 7 false)) ∷ after 6 (Input (Button 3))
    ∷ after 5 (Input (Veh 3 false)) ∷ after 3 (Input (Veh 8 true)) ∷ after 5 (Input (Veh 6 true))
    ∷ after 15 (Input (Button 1)) ∷ after 3 (Input (Button 10)) ∷ after 0 (Input (Veh 2 true))
    ∷ after 29 (Input (PreemptInput 1 false)) ∷ after 1 (Input (Veh 7 true)) ∷ after 10 (Input (Veh 4 true))
    ∷ after 47 (Input (Veh 3 true)) ∷ after 0 (Input (Veh 8 false)) ∷ after 1 (SetPattern 36)
    ∷ after 29 (Input (PreemptInput 6 false)) ∷ after 13 (Input (Veh 8 false)) ∷ after 0 (Input (Veh 12 true))
    ∷ after 28 (Input (Veh 1 false)) ∷ after 4 (Input (PreemptInput 6 false)) ∷ after 2 (Input (Veh 6 true))
    ∷ after 23 (Input (PreemptInput 6 false)) ∷ after 25 (Input (Veh 3 true)) ∷ after 10 (Input (Button 4))
    ∷ after 0 (Input (Veh 8 false)) ∷ []

-- the history: these events, and the ticks after the last one
abbrev pub mixed_fourth_history : History
mixed_fourth_history = record { tables = mixed_fourth_tables; command = 36; clock = 863641; events = ticks 7 (told_in_order mixed_fourth_timeline []) }

-- the expected results, which an independent program computed; newest line first
abbrev pub mixed_fourth_told : HistoryTold
mixed_fourth_told = record {
  command = 36;
  clock = 61;
  version = 0;
  requests = 0 ∷ 0 ∷ 0 ∷ 0 ∷ 0 ∷ 0 ∷ 0 ∷ 0 ∷ 0 ∷ 0 ∷ [];
  vehicle = 2 ∷ 3 ∷ 5 ∷ 6 ∷ 7 ∷ 12 ∷ [];
  pedestrian = 4 ∷ 6 ∷ [];
  sums = record { counter = 4900; target = 81881; command = 41064; clock = 309249630; active = 0 };
  lines =
      line 350 (codes "RRRGRRRGRRRRRRRR") (codes "DDDFDDDFDDDDDDDD") (Coord 36) 35 761 0
      ∷ line 280 (codes "RRRGRRRGRRRRRRRR") (codes "DDDWDDDWDDDDDDDD") (Coord 36) 0 691 0
      ∷ line 232 (codes "RRRRRRRGRRRRRRRR") (codes "DDDDDDDDDDDDDDDD") Ending 0 0 0
      ∷ line 231 (codes "RRRRRRRGRRRRRRRR") (codes "DDDDDDDDDDDDDDDD") (Exit 6) 0 0 0
      ∷ line 221 (codes "RRRRRRCRRRRRRRRR") (codes "DDDDDDDDDDDDDDDD") (Exit 6) 0 0 0
      ∷ line 186 (codes "RRRRRRYRRRRRRRRR") (codes "DDDDDDDDDDDDDDDD") (Exit 6) 0 0 0
      ∷ line 136 (codes "RRRRRRGRRRRRRRRR") (codes "DDDDDDDDDDDDDDDD") (Dwell 6) 0 0 0
      ∷ line 135 (codes "RRRRRRGRRRRRRRRR") (codes "DDDDDDDDDDDDDDDD") (Entry 6) 0 0 0
      ∷ line 120 (codes "RCRRRCRRRRRRRRRR") (codes "DDDDDDDDDDDDDDDD") (Entry 6) 0 0 0
      ∷ line 80 (codes "RYRRRYRRRRRRRRRR") (codes "DDDDDDDDDDDDDDDD") (Entry 6) 0 0 0
      ∷ line 61 (codes "RGRRRGRRRRRRRRRR") (codes "DDDDDDDDDDDDDDDD") (Entry 6) 0 0 0
      ∷ line 60 (codes "RGRRRGRRRRRRRRRR") (codes "DDDDDDDDDDDDDDDD") Free 0 0 0
      ∷ [];
}
