-- The history held_by_request: its tables, its events, and the expected results.
use Rattle.std.specs.Prelude.{List, [], codes, ◌∷◌, true, false}
use Rattle.sig_types.specs.declared.frame.Field.TheVariants.{Veh}
use Rattle.sig_types.specs.declared.frame.Mode.TheVariants.{Coord}
use Rattle.sig_tables.specs.declared.tables.Tables.{Tables}
use Rattle.sig_tables.specs.Past.{Input, Ask, History}
use Rattle.sig_tables.specs.Standard.{std8}
use Rattle.known_histories.specs.Timeline.{Step, ticks, told_in_order, after, request}
use Rattle.known_histories.specs.HistoryTold.{HistoryTold, line}

-- the opening tables of the cabinet
abbrev pub held_by_request_tables : Tables
held_by_request_tables = std8

-- the events of the cabinet, in order
abbrev pub held_by_request_timeline : List Step
held_by_request_timeline =
    after 99 (Ask (request 1 1 1 2 0 600)) ∷ after 100 (Input (Veh 3 true)) ∷ after 1 (Input (Veh 3 false)) ∷ []

-- the history: these events, and the ticks after the last one
abbrev pub held_by_request_history : History
held_by_request_history = record { tables = held_by_request_tables; command = 1; clock = 840; events = ticks 1220 (told_in_order held_by_request_timeline []) }

-- the expected results, which an independent program computed; newest line first
abbrev pub held_by_request_told : HistoryTold
held_by_request_told = record {
  command = 1;
  clock = 2260;
  version = 0;
  requests = 3 ∷ 0 ∷ 0 ∷ 0 ∷ 0 ∷ 0 ∷ 0 ∷ 0 ∷ 0 ∷ 0 ∷ [];
  vehicle = [];
  pedestrian = [];
  sums = record { counter = 510580; target = 510580; command = 1420; clock = 2201710; active = 600 };
  lines =
      line 1415 (codes "RGRRRGRRRRRRRRRR") (codes "DDDDDDDDDDDDDDDD") (Coord 1) 455 455 0
      ∷ line 1405 (codes "RRRRRRRCRRRRRRRR") (codes "DDDDDDDDDDDDDDDD") (Coord 1) 445 445 0
      ∷ line 1400 (codes "RRCRRRRCRRRRRRRR") (codes "DDDDDDDDDDDDDDDD") (Coord 1) 440 440 0
      ∷ line 1395 (codes "RRCRRRRYRRRRRRRR") (codes "DDDDDDDDDDDDDDDD") (Coord 1) 435 435 0
      ∷ line 1360 (codes "RRYRRRRYRRRRRRRR") (codes "DDDDDDDDDDDDDDDD") (Coord 1) 400 400 0
      ∷ line 1260 (codes "RRGRRRRGRRRRRRRR") (codes "DDDDDDDDDDDDDDDD") (Coord 1) 300 300 0
      ∷ line 1245 (codes "RCRRRCRRRRRRRRRR") (codes "DDDDDDDDDDDDDDDD") (Coord 1) 285 285 0
      ∷ line 1205 (codes "RYRRRYRRRRRRRRRR") (codes "DDDDDDDDDDDDDDDD") (Coord 1) 245 245 0
      ∷ line 960 (codes "RGRRRGRRRRRRRRRR") (codes "DDDDDDDDDDDDDDDD") (Coord 1) 0 0 0
      ∷ line 60 (codes "RGRRRGRRRRRRRRRR") (codes "DDDDDDDDDDDDDDDD") (Coord 1) 0 0 0
      ∷ [];
}
