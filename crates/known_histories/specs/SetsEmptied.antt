-- The history sets_emptied: its tables, its events, and the expected results.
use Rattle.std.specs.Prelude.{List, [], codes, ◌∷◌, true, false}
use Rattle.sig_types.specs.declared.frame.Field.TheVariants.{Veh, Preempt as PreemptInput}
use Rattle.sig_types.specs.declared.frame.Mode.TheVariants.{Free, Entry, Dwell, Exit}
use Rattle.sig_tables.specs.declared.tables.Tables.{Tables}
use Rattle.sig_tables.specs.declared.cells.Cell.TheVariants.{Phase, Sequence, Split, Pattern as PatternCell, Preempt as PreemptCell, Unit as UnitCell}
use Rattle.sig_tables.specs.Cells.{Number, Octets}
use Rattle.sig_tables.specs.Putting.{with_cells}
use Rattle.sig_tables.specs.Past.{Input, Install, History}
use Rattle.sig_tables.specs.Standard.{std8}
use Rattle.known_histories.specs.Timeline.{Step, ticks, told_in_order, after}
use Rattle.known_histories.specs.HistoryTold.{HistoryTold, line}

-- the opening tables of the cabinet
abbrev pub sets_emptied_tables : Tables
sets_emptied_tables =
    with_cells std8 (
    (Phase 1 2, Number 6) ∷ (Phase 1 3, Number 5) ∷ (Phase 1 4, Number 9) ∷ (Phase 1 5, Number 24)
    ∷ (Phase 1 6, Number 25) ∷ (Phase 1 8, Number 47) ∷ (Phase 1 9, Number 1) ∷ (Phase 1 10, Number 0)
    ∷ (Phase 1 20, Number 1) ∷ (Phase 1 23, Octets (6 ∷ [])) ∷ (Phase 2 2, Number 5) ∷ (Phase 2 3, Number 0)
    ∷ (Phase 2 4, Number 13) ∷ (Phase 2 5, Number 19) ∷ (Phase 2 6, Number 10) ∷ (Phase 2 8, Number 35)
    ∷ (Phase 2 9, Number 4) ∷ (Phase 2 10, Number 34) ∷ (Phase 2 20, Number 3) ∷ (Phase 2 21, Number 1)
    ∷ (Phase 2 23, Octets (8 ∷ 5 ∷ [])) ∷ (Phase 3 2, Number 1) ∷ (Phase 3 3, Number 7) ∷ (Phase 3 4, Number 17)
    ∷ (Phase 3 5, Number 18) ∷ (Phase 3 6, Number 36) ∷ (Phase 3 8, Number 60) ∷ (Phase 3 9, Number 1)
    ∷ (Phase 3 20, Number 1) ∷ (Phase 3 22, Number 2) ∷ (Phase 3 23, Octets (7 ∷ [])) ∷ (Phase 4 2, Number 1)
    ∷ (Phase 4 3, Number 0) ∷ (Phase 4 4, Number 19) ∷ (Phase 4 5, Number 7) ∷ (Phase 4 6, Number 1)
    ∷ (Phase 4 8, Number 45) ∷ (Phase 4 9, Number 13) ∷ (Phase 4 10, Number 5) ∷ (Phase 4 20, Number 1)
    ∷ (Phase 4 21, Number 1) ∷ (Phase 4 22, Number 2) ∷ (Phase 4 23, Octets (7 ∷ [])) ∷ (Phase 5 2, Number 5)
    ∷ (Phase 5 3, Number 6) ∷ (Phase 5 4, Number 1) ∷ (Phase 5 5, Number 35) ∷ (Phase 5 6, Number 37)
    ∷ (Phase 5 8, Number 34) ∷ (Phase 5 9, Number 8) ∷ (Phase 5 10, Number 0) ∷ (Phase 5 20, Number 1)
    ∷ (Phase 5 23, Octets (2 ∷ [])) ∷ (Phase 6 2, Number 5) ∷ (Phase 6 3, Number 11) ∷ (Phase 6 4, Number 1)
    ∷ (Phase 6 5, Number 24) ∷ (Phase 6 6, Number 12) ∷ (Phase 6 8, Number 43) ∷ (Phase 6 9, Number 19)
    ∷ (Phase 6 10, Number 9) ∷ (Phase 6 20, Number 1) ∷ (Phase 6 21, Number 353) ∷ (Phase 6 23, Octets (1 ∷ []))
    ∷ (Phase 7 2, Number 6) ∷ (Phase 7 4, Number 1) ∷ (Phase 7 5, Number 14) ∷ (Phase 7 6, Number 2)
    ∷ (Phase 7 8, Number 31) ∷ (Phase 7 9, Number 17) ∷ (Phase 7 10, Number 22) ∷ (Phase 7 20, Number 1)
    ∷ (Phase 7 22, Number 1) ∷ (Phase 8 2, Number 3) ∷ (Phase 8 3, Number 11) ∷ (Phase 8 4, Number 0)
    ∷ (Phase 8 5, Number 32) ∷ (Phase 8 6, Number 39) ∷ (Phase 8 8, Number 58) ∷ (Phase 8 9, Number 0)
    ∷ (Phase 8 10, Number 35) ∷ (Phase 8 20, Number 4) ∷ (Phase 8 21, Number 33) ∷ (Phase 8 23, Octets (2 ∷ []))
    ∷ (Sequence 1 1, Octets (7 ∷ 2 ∷ 1 ∷ [])) ∷ (Sequence 1 2, Octets (4 ∷ 3 ∷ 5 ∷ 8 ∷ 6 ∷ []))
    ∷ (Split 5 1 3, Number 27) ∷ (Split 5 2 3, Number 40) ∷ (Split 5 2 4, Number 5) ∷ (Split 5 3 3, Number 34)
    ∷ (Split 5 3 5, Number 1) ∷ (Split 5 4 3, Number 26) ∷ (Split 5 5 3, Number 17) ∷ (Split 5 5 4, Number 7)
    ∷ (Split 5 6 3, Number 27) ∷ (Split 5 6 4, Number 3) ∷ (Split 5 7 3, Number 60) ∷ (Split 5 7 4, Number 1)
    ∷ (Split 5 7 5, Number 1) ∷ (Split 5 8 3, Number 23) ∷ (Split 5 8 4, Number 6) ∷ (Split 25 1 3, Number 23)
    ∷ (Split 25 1 4, Number 7) ∷ (Split 25 2 3, Number 40) ∷ (Split 25 2 4, Number 1) ∷ (Split 25 3 3, Number 24)
    ∷ (Split 25 4 3, Number 28) ∷ (Split 25 4 4, Number 3) ∷ (Split 25 4 5, Number 1) ∷ (Split 25 5 3, Number 18)
    ∷ (Split 25 5 4, Number 1) ∷ (Split 25 6 3, Number 23) ∷ (Split 25 7 3, Number 52) ∷ (Split 25 7 4, Number 4)
    ∷ (Split 25 7 5, Number 1) ∷ (Split 25 8 3, Number 22) ∷ (PatternCell 1 2, Number 127)
    ∷ (PatternCell 1 4, Number 5) ∷ (PatternCell 12 2, Number 115) ∷ (PatternCell 12 4, Number 25)
    ∷ (PatternCell 12 5, Number 1) ∷ (PreemptCell 1 5, Number 27) ∷ (PreemptCell 1 6, Number 2)
    ∷ (PreemptCell 1 7, Number 1) ∷ (PreemptCell 1 8, Number 2) ∷ (PreemptCell 1 9, Number 8)
    ∷ (PreemptCell 1 10, Number 3) ∷ (PreemptCell 1 12, Octets (7 ∷ 4 ∷ []))
    ∷ (PreemptCell 1 13, Octets (8 ∷ 2 ∷ [])) ∷ (PreemptCell 1 15, Octets (8 ∷ 2 ∷ [])) ∷ (PreemptCell 7 6, Number 4)
    ∷ (PreemptCell 7 8, Number 8) ∷ (PreemptCell 7 9, Number 8) ∷ (PreemptCell 7 10, Number 5)
    ∷ (PreemptCell 7 11, Number 14) ∷ (PreemptCell 7 12, Octets (2 ∷ [])) ∷ (PreemptCell 7 13, Octets (7 ∷ 3 ∷ []))
    ∷ (PreemptCell 7 15, Octets (2 ∷ 8 ∷ [])) ∷ (UnitCell 1, Number 4) ∷ (UnitCell 2, Number 442)
    ∷ (UnitCell 3, Number 130) ∷ (UnitCell 4, Number 24) ∷ []
    )

-- the tables after this download
abbrev pub sets_emptied_download_1 : Tables
sets_emptied_download_1 =
    with_cells sets_emptied_tables (
    (PreemptCell 1 12, Octets ([])) ∷ (PreemptCell 7 12, Octets ([])) ∷ []
    )

-- the tables after this download
abbrev pub sets_emptied_download_2 : Tables
sets_emptied_download_2 =
    with_cells sets_emptied_download_1 (
    (PreemptCell 1 13, Octets ([])) ∷ []
    )

-- the tables after this download
abbrev pub sets_emptied_download_3 : Tables
sets_emptied_download_3 =
    with_cells sets_emptied_download_2 (
    []
    )

-- the tables after this download
abbrev pub sets_emptied_download_4 : Tables
sets_emptied_download_4 =
    with_cells sets_emptied_download_3 (
    []
    )

-- the tables after this download
abbrev pub sets_emptied_download_5 : Tables
sets_emptied_download_5 =
    with_cells sets_emptied_download_4 (
    []
    )

-- the tables after this download
abbrev pub sets_emptied_download_6 : Tables
sets_emptied_download_6 =
    with_cells sets_emptied_download_5 (
    (PreemptCell 1 15, Octets ([])) ∷ (PreemptCell 7 15, Octets ([])) ∷ []
    )

-- the tables after this download
abbrev pub sets_emptied_download_7 : Tables
sets_emptied_download_7 =
    with_cells sets_emptied_download_6 (
    []
    )

-- the events of the cabinet, in order
abbrev pub sets_emptied_timeline : List Step
sets_emptied_timeline =
    after 12 (Input (Veh 3 true)) ∷ after 40 (Input (Veh 6 true)) ∷ after 2 (Input (PreemptInput 7 true))
    ∷ after 15 (Install sets_emptied_download_1) ∷ after 10 (Install sets_emptied_download_2)
    ∷ after 17 (Input (Veh 2 true)) ∷ after 5 (Install sets_emptied_download_3)
    ∷ after 1 (Install sets_emptied_download_4) ∷ after 7 (Input (Veh 5 true))
    ∷ after 0 (Input (PreemptInput 7 false)) ∷ after 2 (Input (Veh 1 true)) ∷ after 17 (Input (Veh 15 false))
    ∷ after 7 (Input (Veh 6 true)) ∷ after 11 (Input (Veh 3 true)) ∷ after 7 (Input (Veh 2 false))
    ∷ after 32 (Input (Veh 6 true)) ∷ after 2 (Input (PreemptInput 7 false)) ∷ after 17 (Input (Veh 1 false))
    ∷ after 8 (Input (Veh 1 false)) ∷ after 11 (Input (Veh 4 false)) ∷ after 36 (Install sets_emptied_download_5)
    ∷ after 28 (Install sets_emptied_download_6) ∷ after 0 (Input (Veh 14 true)) ∷ after 5 (Input (Veh 5 false))
    ∷ after 0 (Install sets_emptied_download_7) ∷ after 6 (Input (Veh 5 false)) ∷ after 16 (Input (Veh 2 false))
    ∷ after 40 (Input (Veh 4 false)) ∷ after 58 (Input (Veh 3 true)) ∷ after 7 (Input (Veh 6 true)) ∷ []

-- the history: these events, and the ticks after the last one
abbrev pub sets_emptied_history : History
sets_emptied_history = record { tables = sets_emptied_tables; command = 0; clock = 391802; events = ticks 1 (told_in_order sets_emptied_timeline []) }

-- the expected results, which an independent program computed; newest line first
abbrev pub sets_emptied_told : HistoryTold
sets_emptied_told = record {
  command = 0;
  clock = 392222;
  version = 7;
  requests = 0 ∷ 0 ∷ 0 ∷ 0 ∷ 0 ∷ 0 ∷ 0 ∷ 0 ∷ 0 ∷ 0 ∷ [];
  vehicle = 1 ∷ 5 ∷ 14 ∷ [];
  pedestrian = [];
  sums = record { counter = 0; target = 0; command = 0; clock = 164645250; active = 0 };
  lines =
      line 293 (codes "RRGRRRRRRRRRRRRR") (codes "DDDDDDDDDDDDDDDD") Free 0 0 7
      ∷ line 288 (codes "RRGRRRRRRRRRRRRR") (codes "DDDDDDDDDDDDDDDD") Free 0 0 6
      ∷ line 260 (codes "RRGRRRRRRRRRRRRR") (codes "DDDDDDDDDDDDDDDD") (Exit 7) 0 0 5
      ∷ line 238 (codes "RRGRRRRRRRRRRRRR") (codes "DDDDDDDDDDDDDDDD") (Exit 7) 0 0 4
      ∷ line 221 (codes "RRGRRRCRRRRRRRRR") (codes "DDDDDDDDDDDDDDDD") (Exit 7) 0 0 4
      ∷ line 190 (codes "RRGRRRYRRRRRRRRR") (codes "DDDDDDDDDDDDDDDD") (Exit 7) 0 0 4
      ∷ line 140 (codes "RRGRRRGRRRRRRRRR") (codes "DDDDDDDDDDDDDDDD") (Dwell 7) 0 0 4
      ∷ line 139 (codes "RRGRRRGRRRRRRRRR") (codes "DDDDDDDDDDDDDDDD") (Entry 7) 0 0 4
      ∷ line 135 (codes "RCRRRRRRRRRRRRRR") (codes "DDDDDDDDDDDDDDDD") (Entry 7) 0 0 4
      ∷ line 119 (codes "RYRRRRRRRRRRRRRR") (codes "DDDDDDDDDDDDDDDD") (Entry 7) 0 0 4
      ∷ line 103 (codes "RYRRRRRYRRRRRRRR") (codes "DDDDDDDDDDDDDDDD") (Entry 7) 0 0 4
      ∷ line 102 (codes "RYRRRRRYRRRRRRRR") (codes "DDDDDDDDDDDDDDDD") (Entry 7) 0 0 3
      ∷ line 100 (codes "RYRRRRRYRRRRRRRR") (codes "DDDDDDDDDDDDDDDD") (Entry 7) 0 0 2
      ∷ line 80 (codes "RGRRRRRYRRRRRRRR") (codes "DDDDDDDDDDDDDDDD") (Entry 7) 0 0 2
      ∷ line 70 (codes "RGRRRRRYRRRRRRRR") (codes "DDDDDDDDDDDDDDDD") (Entry 7) 0 0 1
      ∷ line 61 (codes "RGRRRRRYRRRRRRRR") (codes "DWDDDDDDDDDDDDDD") (Entry 7) 0 0 0
      ∷ line 60 (codes "RGRRRRRGRRRRRRRR") (codes "DWDDDDDDDDDDDDDD") Free 0 0 0
      ∷ [];
}
