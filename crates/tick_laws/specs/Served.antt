-- Ticks at which a pattern forces off only phases that have been served.
use Rattle.std.specs.Prelude.{ℕ, ◌≡◌, true, List}
use Rattle.sig_tables.specs.declared.tables.Tables.{Tables}
use Rattle.sig_tables.specs.Past.{Event, Tick, Past}
use Rattle.sig_tables.specs.View.{is_served, is_forced}
use Rattle.sig_tables.specs.Seen.{view_seen}
use Rattle.sig_tables.specs.Decide.{past_of}
use Rattle.sig_tables.specs.Events.{EachEvent}

-- each phase that the pattern forces off at the next tick has been served
abbrev pub ForcesServed : Past → Type 0
ForcesServed past = (p : ℕ) → is_forced (view_seen past) p ≡ true → is_served past.tables past.moments p ≡ true

-- if the event is a tick, each phase that the pattern forces off at it has been served
abbrev pub IsServedAfter : Tables → List Event → Event → Type 0
IsServedAfter opening before Tick = ForcesServed (past_of opening before)
IsServedAfter opening before _ = Unit {0}

-- at each tick of these events the pattern forces off only phases that have been served
abbrev pub AllServed : Tables → List Event → Type 0
AllServed opening events = EachEvent (IsServedAfter opening) events
