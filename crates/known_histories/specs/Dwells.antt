-- The history dwells: its tables, its events, and the expected results.
use Rattle.std.specs.Prelude.{List, [], codes, ◌∷◌}
use Rattle.sig_types.specs.declared.frame.Mode.TheVariants.{Coord}
use Rattle.sig_tables.specs.declared.tables.Tables.{Tables}
use Rattle.sig_tables.specs.Past.{History}
use Rattle.sig_tables.specs.Standard.{std8}
use Rattle.known_histories.specs.Timeline.{Step, ticks, told_in_order}
use Rattle.known_histories.specs.HistoryTold.{HistoryTold, line}

-- the opening tables of the cabinet
abbrev pub dwells_tables : Tables
dwells_tables = std8

-- the events of the cabinet, in order
abbrev pub dwells_timeline : List Step
dwells_timeline =
    []

-- the history: these events, and the ticks after the last one
abbrev pub dwells_history : History
dwells_history = record { tables = dwells_tables; command = 1; clock = 841; events = ticks 1100 (told_in_order dwells_timeline []) }

-- the expected results, which an independent program computed; newest line first
abbrev pub dwells_told : HistoryTold
dwells_told = record {
  command = 1;
  clock = 1941;
  version = 0;
  requests = 0 ∷ 0 ∷ 0 ∷ 0 ∷ 0 ∷ 0 ∷ 0 ∷ 0 ∷ 0 ∷ 0 ∷ [];
  vehicle = [];
  pedestrian = [];
  sums = record { counter = 404550; target = 414561; command = 1100; clock = 1530650; active = 0 };
  lines =
      line 1060 (codes "RGRRRGRRRRRRRRRR") (codes "DDDDDDDDDDDDDDDD") (Coord 1) 0 101 0
      ∷ line 60 (codes "RGRRRGRRRRRRRRRR") (codes "DDDDDDDDDDDDDDDD") (Coord 1) 0 1 0
      ∷ [];
}
