-- The history preempted: its tables, its events, and the expected results.
use Rattle.std.specs.Prelude.{List, [], codes, ◌∷◌, true, false}
use Rattle.sig_types.specs.declared.frame.Field.TheVariants.{Ped as Button, Preempt as PreemptInput}
use Rattle.sig_types.specs.declared.frame.Mode.TheVariants.{Free, Entry, Dwell}
use Rattle.sig_tables.specs.declared.tables.Tables.{Tables}
use Rattle.sig_tables.specs.declared.cells.Cell.TheVariants.{Preempt as PreemptCell}
use Rattle.sig_tables.specs.Cells.{Number, Octets}
use Rattle.sig_tables.specs.Putting.{with_cells}
use Rattle.sig_tables.specs.Past.{Input, History}
use Rattle.sig_tables.specs.Standard.{std8}
use Rattle.known_histories.specs.Timeline.{Step, ticks, told_in_order, after}
use Rattle.known_histories.specs.HistoryTold.{HistoryTold, line}

-- the opening tables of the cabinet
abbrev pub preempted_tables : Tables
preempted_tables =
    with_cells std8 (
    (PreemptCell 1 5, Number 10) ∷ (PreemptCell 1 6, Number 5) ∷ (PreemptCell 1 7, Number 4)
    ∷ (PreemptCell 1 8, Number 8) ∷ (PreemptCell 1 10, Number 5) ∷ (PreemptCell 1 13, Octets (2 ∷ 6 ∷ [])) ∷ []
    )

-- the events of the cabinet, in order
abbrev pub preempted_timeline : List Step
preempted_timeline =
    after 60 (Input (Button 4)) ∷ after 224 (Input (PreemptInput 1 true)) ∷ after 115 (Input (PreemptInput 1 false))
    ∷ []

-- the history: these events, and the ticks after the last one
abbrev pub preempted_history : History
preempted_history = record { tables = preempted_tables; command = 0; clock = 0; events = ticks 201 (told_in_order preempted_timeline []) }

-- the expected results, which an independent program computed; newest line first
abbrev pub preempted_told : HistoryTold
preempted_told = record {
  command = 0;
  clock = 600;
  version = 0;
  requests = 0 ∷ 0 ∷ 0 ∷ 0 ∷ 0 ∷ 0 ∷ 0 ∷ 0 ∷ 0 ∷ 0 ∷ [];
  vehicle = [];
  pedestrian = [];
  sums = record { counter = 0; target = 0; command = 0; clock = 180300; active = 0 };
  lines =
      line 471 (codes "RGRRRGRRRRRRRRRR") (codes "DDDDDDDDDDDDDDDD") Free 0 0 0
      ∷ line 421 (codes "RGRRRGRRRRRRRRRR") (codes "DDDDDDDDDDDDDDDD") (Dwell 1) 0 0 0
      ∷ line 420 (codes "RGRRRGRRRRRRRRRR") (codes "DDDDDDDDDDDDDDDD") (Entry 1) 0 0 0
      ∷ line 405 (codes "RRRCRRRRRRRRRRRR") (codes "DDDDDDDDDDDDDDDD") (Entry 1) 0 0 0
      ∷ line 365 (codes "RRRYRRRRRRRRRRRR") (codes "DDDDDDDDDDDDDDDD") (Entry 1) 0 0 0
      ∷ line 340 (codes "RRRGRRRRRRRRRRRR") (codes "DDDFDDDDDDDDDDDD") (Entry 1) 0 0 0
      ∷ line 325 (codes "RRRGRRRCRRRRRRRR") (codes "DDDFDDDDDDDDDDDD") (Entry 1) 0 0 0
      ∷ line 285 (codes "RRRGRRRYRRRRRRRR") (codes "DDDFDDDDDDDDDDDD") (Entry 1) 0 0 0
      ∷ line 215 (codes "RRRGRRRGRRRRRRRR") (codes "DDDWDDDDDDDDDDDD") Free 0 0 0
      ∷ line 200 (codes "RCRRRCRRRRRRRRRR") (codes "DDDDDDDDDDDDDDDD") Free 0 0 0
      ∷ line 160 (codes "RYRRRYRRRRRRRRRR") (codes "DDDDDDDDDDDDDDDD") Free 0 0 0
      ∷ line 60 (codes "RGRRRGRRRRRRRRRR") (codes "DDDDDDDDDDDDDDDD") Free 0 0 0
      ∷ [];
}
