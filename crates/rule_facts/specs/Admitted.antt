-- A history whose tables have all been accepted by the rules: the opening tables, and each download compared with the
-- tables then in force.
use Rattle.std.specs.Prelude.{◌≡◌, List, [], Bool}
use Rattle.sig_types.specs.declared.frame.Mode.TheVariants.{Flash}
use Rattle.sig_tables.specs.declared.tables.Tables.{Tables}
use Rattle.sig_tables.specs.Past.{Event, Install, Past, History}
use Rattle.sig_tables.specs.Looking.{last_frame}
use Rattle.sig_tables.specs.Modes.{same_mode}
use Rattle.sig_tables.specs.Events.{EachEvent}
use Rattle.sig_tables.specs.Decide.{past_of, past_at}
use Rattle.rule_book.specs.Rules.{broken, Consistent}
use Rattle.tick_laws.specs.Safe.{EachApart, EachOne, EachEnabled}
use Rattle.tick_laws.specs.Walking.{EachQuiet}

-- the cabinet flashes: its last frame is in flash
abbrev pub is_flashing : Past → Bool
is_flashing past = same_mode (last_frame past.moments).mode Flash

-- the event is allowed after these: a download breaks no rule, compared with the tables that it replaces
abbrev pub IsAdmittedAfter : Tables → List Event → Event → Type 0
IsAdmittedAfter opening before (Install t) = broken t (past_of opening before).tables (is_flashing (past_of opening before)) ≡ []
IsAdmittedAfter opening before _ = Unit {0}

-- the opening tables are consistent, and each event is allowed after those before it
abbrev pub Admitted : Tables → List Event → Type 0
Admitted opening events = Consistent opening × EachEvent (IsAdmittedAfter opening) events

-- at every tick no two conflicting phases are on, at most one phase of a ring is on, and only enabled phases are on. No
-- two conflicting phases show Walk or Flash, and disabled phases show Dont
pub record KeepsApart (h : History) : Type 0 where
  pub apart : EachApart (past_at h).moments
  pub one : EachOne (past_at h).moments
  pub enabled : EachEnabled (past_at h).moments
  pub quiet : EachQuiet (past_at h).moments
