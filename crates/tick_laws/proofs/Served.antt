-- Histories that are known to be lawful, and those in which no phase is forced off.
use Rattle.std.proofs.Common.{ℕ, List, [], ◌∷◌, ◌++◌}
use Rattle.std.proofs.lemmas.Bool.{both_ways}
use Rattle.sig_tables.specs.declared.tables.Tables.{Tables}
use Rattle.sig_tables.specs.Past.{Event, Tick, Install}
use Rattle.sig_tables.specs.Events.{EachEvent}
use Rattle.sig_tables.specs.Plain.{RunsPlain, IsStreetEvent, OnlyStreet, IsPlainAfter, Plain}
use Rattle.sig_tables.specs.View.{is_forced}
use Rattle.sig_tables.specs.Seen.{view_seen}
use Rattle.sig_tables.specs.Decide.{past_of, opening_commands}
use Rattle.sig_tables.proofs.FreeTickState.{unbound-plain, forced-unbound}
use Rattle.sig_tables.proofs.Histories.{each-event}
use Rattle.tick_laws.specs.Lawful.{Sound, IsLawfulAfter, Lawful}
use Rattle.tick_laws.specs.Served.{ForcesServed, IsServedAfter, AllServed}

-- ticks of Start and Free force no phase off
pub plain-served : (opening : Tables) (events : List Event) → Plain opening events → AllServed opening events
plain-served opening events plain = each-event (IsPlainAfter opening) (IsServedAfter opening) served events plain
  where
    none : (before : List Event) → RunsPlain (past_of opening before) → ForcesServed (past_of opening before)
    none before r p forced =
        absurd (both_ways (is_forced (view_seen (past_of opening before)) p)
        (forced-unbound (view_seen (past_of opening before)) p (unbound-plain (past_of opening before) r)) forced)

    served : (before : List Event) (e : Event) → IsPlainAfter opening before e → IsServedAfter opening before e
    served before Tick r = none before r
    served before _ r = tt

-- where nothing is downloaded, sound tables are enough
pub street-lawful : (t : Tables) (command clock : ℕ) (events : List Event) → Sound t → OnlyStreet events
    → Lawful t (events ++ opening_commands command clock)
street-lawful t command clock events sound street = (sound, each events street)
  where
    one : (before : List Event) (e : Event) → IsStreetEvent e → IsLawfulAfter t before e
    one before (Install u) h = absurd h
    one before _ h = tt

    each : (es : List Event) → OnlyStreet es → EachEvent (IsLawfulAfter t) (es ++ opening_commands command clock)
    each [] h = (tt, (tt, tt))
    each (e ∷ es) h = (one (es ++ opening_commands command clock) e h.0, each es h.1)
