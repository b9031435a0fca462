-- The history forced_off: its tables, its events, and the expected results.
use Rattle.std.specs.Prelude.{List, [], codes, ◌∷◌, true, false}
use Rattle.sig_types.specs.declared.frame.Field.TheVariants.{Veh}
use Rattle.sig_types.specs.declared.frame.Mode.TheVariants.{Coord}
use Rattle.sig_tables.specs.declared.tables.Tables.{Tables}
use Rattle.sig_tables.specs.Past.{Input, History}
use Rattle.sig_tables.specs.Standard.{std8}
use Rattle.known_histories.specs.Timeline.{Step, ticks, told_in_order, after}
use Rattle.known_histories.specs.HistoryTold.{HistoryTold, line}

-- the opening tables of the cabinet
abbrev pub forced_off_tables : Tables
forced_off_tables = std8

-- the events of the cabinet, in order
abbrev pub forced_off_timeline : List Step
forced_off_timeline =
    after 199 (Input (Veh 3 true)) ∷ after 1 (Input (Veh 3 false)) ∷ []

-- the history: these events, and the ticks after the last one
abbrev pub forced_off_history : History
forced_off_history = record { tables = forced_off_tables; command = 1; clock = 840; events = ticks 800 (told_in_order forced_off_timeline []) }

-- the expected results, which an independent program computed; newest line first
abbrev pub forced_off_told : HistoryTold
forced_off_told = record {
  command = 1;
  clock = 1840;
  version = 0;
  requests = 0 ∷ 0 ∷ 0 ∷ 0 ∷ 0 ∷ 0 ∷ 0 ∷ 0 ∷ 0 ∷ 0 ∷ [];
  vehicle = [];
  pedestrian = [];
  sums = record { counter = 405370; target = 405370; command = 1000; clock = 1340500; active = 0 };
  lines =
      line 960 (codes "RGRRRGRRRRRRRRRR") (codes "DDDDDDDDDDDDDDDD") (Coord 1) 0 0 0
      ∷ line 515 (codes "RGRRRGRRRRRRRRRR") (codes "DDDDDDDDDDDDDDDD") (Coord 1) 455 455 0
      ∷ line 505 (codes "RRRRRRRCRRRRRRRR") (codes "DDDDDDDDDDDDDDDD") (Coord 1) 445 445 0
      ∷ line 500 (codes "RRCRRRRCRRRRRRRR") (codes "DDDDDDDDDDDDDDDD") (Coord 1) 440 440 0
      ∷ line 495 (codes "RRCRRRRYRRRRRRRR") (codes "DDDDDDDDDDDDDDDD") (Coord 1) 435 435 0
      ∷ line 460 (codes "RRYRRRRYRRRRRRRR") (codes "DDDDDDDDDDDDDDDD") (Coord 1) 400 400 0
      ∷ line 360 (codes "RRGRRRRGRRRRRRRR") (codes "DDDDDDDDDDDDDDDD") (Coord 1) 300 300 0
      ∷ line 345 (codes "RCRRRCRRRRRRRRRR") (codes "DDDDDDDDDDDDDDDD") (Coord 1) 285 285 0
      ∷ line 305 (codes "RYRRRYRRRRRRRRRR") (codes "DDDDDDDDDDDDDDDD") (Coord 1) 245 245 0
      ∷ line 60 (codes "RGRRRGRRRRRRRRRR") (codes "DDDDDDDDDDDDDDDD") (Coord 1) 0 0 0
      ∷ [];
}
