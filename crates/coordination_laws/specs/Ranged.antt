-- Histories whose tables have only allowed values, so that no cycle is too long for a slow drift.
use Rattle.std.specs.Prelude.{List}
use Rattle.sig_tables.specs.declared.tables.Tables.{Tables}
use Rattle.sig_tables.specs.InRange.{InRange}
use Rattle.sig_tables.specs.Events.{EachEvent}
use Rattle.sig_tables.specs.Past.{Event, Install}

-- if the event puts tables in force, they are in range
abbrev pub PutsInRange : List Event → Event → Type 0
PutsInRange before (Install t) = InRange t
PutsInRange before _ = Unit {0}

-- the opening tables are in range, and so are those of each download
abbrev pub EachInRange : Tables → List Event → Type 0
EachInRange opening events = InRange opening × EachEvent PutsInRange events
