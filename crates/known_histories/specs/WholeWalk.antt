-- The history whole_walk: its tables, its events, and the expected results.
use Rattle.std.specs.Prelude.{List, [], codes, ◌∷◌}
use Rattle.sig_types.specs.declared.frame.Field.TheVariants.{Ped as Button}
use Rattle.sig_types.specs.declared.frame.Mode.TheVariants.{Coord}
use Rattle.sig_tables.specs.declared.tables.Tables.{Tables}
use Rattle.sig_tables.specs.Past.{Input, History}
use Rattle.sig_tables.specs.Standard.{std8}
use Rattle.known_histories.specs.Timeline.{Step, ticks, told_in_order, after}
use Rattle.known_histories.specs.HistoryTold.{HistoryTold, line}

-- the opening tables of the cabinet
abbrev pub whole_walk_tables : Tables
whole_walk_tables = std8

-- the events of the cabinet, in order
abbrev pub whole_walk_timeline : List Step
whole_walk_timeline =
    after 100 (Input (Button 2)) ∷ []

-- the history: these events, and the ticks after the last one
abbrev pub whole_walk_history : History
whole_walk_history = record { tables = whole_walk_tables; command = 1; clock = 840; events = ticks 1100 (told_in_order whole_walk_timeline []) }

-- the expected results, which an independent program computed; newest line first
abbrev pub whole_walk_told : HistoryTold
whole_walk_told = record {
  command = 1;
  clock = 2040;
  version = 0;
  requests = 0 ∷ 0 ∷ 0 ∷ 0 ∷ 0 ∷ 0 ∷ 0 ∷ 0 ∷ 0 ∷ 0 ∷ [];
  vehicle = [];
  pedestrian = [];
  sums = record { counter = 433470; target = 433470; command = 1200; clock = 1728600; active = 0 };
  lines =
      line 1150 (codes "RGRRRGRRRRRRRRRR") (codes "DDDDDDDDDDDDDDDD") (Coord 1) 190 190 0
      ∷ line 1030 (codes "RGRRRGRRRRRRRRRR") (codes "DFDDDDDDDDDDDDDD") (Coord 1) 70 70 0
      ∷ line 960 (codes "RGRRRGRRRRRRRRRR") (codes "DWDDDDDDDDDDDDDD") (Coord 1) 0 0 0
      ∷ line 60 (codes "RGRRRGRRRRRRRRRR") (codes "DDDDDDDDDDDDDDDD") (Coord 1) 0 0 0
      ∷ [];
}
