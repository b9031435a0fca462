-- The history loses: its tables, its events, and the expected results.
use Rattle.std.specs.Prelude.{List, [], codes, ◌∷◌}
use Rattle.sig_types.specs.declared.frame.Mode.TheVariants.{Coord}
use Rattle.sig_tables.specs.declared.tables.Tables.{Tables}
use Rattle.sig_tables.specs.Past.{SetDrift, History}
use Rattle.sig_tables.specs.Standard.{std8}
use Rattle.known_histories.specs.Timeline.{Step, ticks, told_in_order, after}
use Rattle.known_histories.specs.HistoryTold.{HistoryTold, line}

-- the opening tables of the cabinet
abbrev pub loses_tables : Tables
loses_tables = std8

-- the events of the cabinet, in order
abbrev pub loses_timeline : List Step
loses_timeline =
    after 0 (SetDrift 0 500) ∷ []

-- the history: these events, and the ticks after the last one
abbrev pub loses_history : History
loses_history = record { tables = loses_tables; command = 1; clock = 840; events = ticks 1100 (told_in_order loses_timeline []) }

-- the expected results, which an independent program computed; newest line first
abbrev pub loses_told : HistoryTold
loses_told = record {
  command = 1;
  clock = 1938;
  version = 0;
  requests = 0 ∷ 0 ∷ 0 ∷ 0 ∷ 0 ∷ 0 ∷ 0 ∷ 0 ∷ 0 ∷ 0 ∷ [];
  vehicle = [];
  pedestrian = [];
  sums = record { counter = 414280; target = 414618; command = 1100; clock = 1528848; active = 0 };
  lines =
      line 960 (codes "RGRRRGRRRRRRRRRR") (codes "DDDDDDDDDDDDDDDD") (Coord 1) 0 899 0
      ∷ line 60 (codes "RGRRRGRRRRRRRRRR") (codes "DDDDDDDDDDDDDDDD") (Coord 1) 0 0 0
      ∷ [];
}
