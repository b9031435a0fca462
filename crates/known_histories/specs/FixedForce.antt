-- The history fixed_force: its tables, its events, and the expected results.
use Rattle.std.specs.Prelude.{List, [], codes, ◌∷◌, true}
use Rattle.sig_types.specs.declared.frame.Field.TheVariants.{Veh}
use Rattle.sig_types.specs.declared.frame.Mode.TheVariants.{Coord}
use Rattle.sig_tables.specs.declared.tables.Tables.{Tables}
use Rattle.sig_tables.specs.Past.{Input, History}
use Rattle.sig_tables.specs.Standard.{std8}
use Rattle.known_histories.specs.Timeline.{Step, ticks, told_in_order, after}
use Rattle.known_histories.specs.HistoryTold.{HistoryTold, line}

-- the opening tables of the cabinet
abbrev pub fixed_force_tables : Tables
fixed_force_tables = std8

-- the events of the cabinet, in order
abbrev pub fixed_force_timeline : List Step
fixed_force_timeline =
    after 199 (Input (Veh 4 true)) ∷ []

-- the history: these events, and the ticks after the last one
abbrev pub fixed_force_history : History
fixed_force_history = record { tables = fixed_force_tables; command = 1; clock = 840; events = ticks 631 (told_in_order fixed_force_timeline []) }

-- the expected results, which an independent program computed; newest line first
abbrev pub fixed_force_told : HistoryTold
fixed_force_told = record {
  command = 1;
  clock = 1670;
  version = 0;
  requests = 0 ∷ 0 ∷ 0 ∷ 0 ∷ 0 ∷ 0 ∷ 0 ∷ 0 ∷ 0 ∷ 0 ∷ [];
  vehicle = [];
  pedestrian = [];
  sums = record { counter = 296835; target = 296835; command = 830; clock = 1042065; active = 0 };
  lines =
      line 810 (codes "RGRRRGRRRRRRRRRR") (codes "DDDDDDDDDDDDDDDD") (Coord 1) 750 750 0
      ∷ line 795 (codes "RRRCRRRCRRRRRRRR") (codes "DDDDDDDDDDDDDDDD") (Coord 1) 735 735 0
      ∷ line 755 (codes "RRRYRRRYRRRRRRRR") (codes "DDDDDDDDDDDDDDDD") (Coord 1) 695 695 0
      ∷ line 360 (codes "RRRGRRRGRRRRRRRR") (codes "DDDDDDDDDDDDDDDD") (Coord 1) 300 300 0
      ∷ line 345 (codes "RCRRRCRRRRRRRRRR") (codes "DDDDDDDDDDDDDDDD") (Coord 1) 285 285 0
      ∷ line 305 (codes "RYRRRYRRRRRRRRRR") (codes "DDDDDDDDDDDDDDDD") (Coord 1) 245 245 0
      ∷ line 60 (codes "RGRRRGRRRRRRRRRR") (codes "DDDDDDDDDDDDDDDD") (Coord 1) 0 0 0
      ∷ [];
}
