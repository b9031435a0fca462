-- The history past_midnight: its tables, its events, and the expected results.
use Rattle.std.specs.Prelude.{List, [], codes, ◌∷◌}
use Rattle.sig_types.specs.declared.frame.Mode.TheVariants.{Coord}
use Rattle.sig_tables.specs.declared.tables.Tables.{Tables}
use Rattle.sig_tables.specs.declared.cells.Cell.TheVariants.{Phase, Split, Pattern as PatternCell}
use Rattle.sig_tables.specs.Cells.{Number}
use Rattle.sig_tables.specs.Putting.{with_cells}
use Rattle.sig_tables.specs.Past.{History}
use Rattle.sig_tables.specs.Standard.{std8}
use Rattle.known_histories.specs.Timeline.{Step, ticks, told_in_order}
use Rattle.known_histories.specs.HistoryTold.{HistoryTold, line}

-- the opening tables of the cabinet
abbrev pub past_midnight_tables : Tables
past_midnight_tables =
    with_cells std8 (
    (Phase 2 2, Number 5) ∷ (Phase 2 3, Number 10) ∷ (Phase 4 2, Number 5) ∷ (Phase 4 3, Number 10)
    ∷ (Phase 6 2, Number 5) ∷ (Phase 6 3, Number 10) ∷ (Phase 8 2, Number 5) ∷ (Phase 8 3, Number 10)
    ∷ (Split 1 1 3, Number 10) ∷ (Split 1 2 3, Number 25) ∷ (Split 1 3 3, Number 10) ∷ (Split 1 4 3, Number 25)
    ∷ (Split 1 5 3, Number 10) ∷ (Split 1 6 3, Number 25) ∷ (Split 1 7 3, Number 10) ∷ (Split 1 8 3, Number 25)
    ∷ (PatternCell 1 2, Number 70) ∷ []
    )

-- the events of the cabinet, in order
abbrev pub past_midnight_timeline : List Step
past_midnight_timeline =
    []

-- the history: these events, and the ticks after the last one
abbrev pub past_midnight_history : History
past_midnight_history = record { tables = past_midnight_tables; command = 1; clock = 863740; events = ticks 770 (told_in_order past_midnight_timeline []) }

-- the expected results, which an independent program computed; newest line first
abbrev pub past_midnight_told : HistoryTold
past_midnight_told = record {
  command = 1;
  clock = 510;
  version = 0;
  requests = 0 ∷ 0 ∷ 0 ∷ 0 ∷ 0 ∷ 0 ∷ 0 ∷ 0 ∷ 0 ∷ 0 ∷ [];
  vehicle = [];
  pedestrian = [];
  sums = record { counter = 244650; target = 150205; command = 770; clock = 223872635; active = 0 };
  lines =
      line 760 (codes "RGRRRGRRRRRRRRRR") (codes "DDDDDDDDDDDDDDDD") (Coord 1) 0 500 0
      ∷ line 60 (codes "RGRRRGRRRRRRRRRR") (codes "DDDDDDDDDDDDDDDD") (Coord 1) 0 0 0
      ∷ [];
}
