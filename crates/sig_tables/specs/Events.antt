-- A condition on each event of a history and on the events before it. Lists of events have the newest first.
use Rattle.std.specs.Prelude.{List, [], ◌∷◌}
use Rattle.sig_tables.specs.Past.{Event}

-- each event is one that the events before it allow
abbrev pub EachEvent : (List Event → Event → Type 0) → List Event → Type 0
EachEvent allows [] = Unit {0}
EachEvent allows (e ∷ events) = allows events e × EachEvent allows events
