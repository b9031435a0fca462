-- A cabinet that has just been made.
use Rattle.std.proofs.Common.{◌≡◌, ◌≤◌, ◌<◌, ℕ, List, [], ◌∷◌, ◌++◌, length, refl, sym, ap, subst, arith, Option, Some}
use Rattle.sig_tables.specs.declared.tables.Tables.{Tables}
use Rattle.sig_tables.specs.Past.{Past, History, Event, Tick, Input, Install, SetPattern, SetClock, Ask, Cancel, SetDrift, Moment, first_moment}
use Rattle.sig_tables.specs.Looking.{last_moment, last_frame}
use Rattle.sig_tables.specs.Clock.{clock_told}
use Rattle.sig_tables.specs.Decide.{past_of, past_at, frames_in, opening_commands}
use Rattle.sig_tables.specs.Putting.{EachFits}
use Rattle.cab_book.specs.declared.control.Control.{Control}
use Rattle.cab_book.specs.Controls.{ControlStands, tick_count}
use Rattle.cab_book.proofs.Facts.{first-ticks}
use Rattle.cab_book.specs.CabinetStands.{OnlyDrifts, IsNew, IsSound}

-- what such a history has reached
record NewPast (t : Tables) (clock : ℕ) (past : Past) : Type 0 where
  tables : past.tables ≡ t
  version : past.version ≡ 0
  clock_set : past.clock_set ≡ Some clock
  moments : past.moments ≡ first_moment t ∷ []

new-past : (t : Tables) (command clock : ℕ) (events : List Event) → OnlyDrifts events → NewPast t clock (past_of t (events ++ opening_commands command clock))
new-past t command clock [] only = record { tables = refl; version = refl; clock_set = refl; moments = refl }
new-past t command clock (SetDrift gain lose ∷ events) only =
    let before = new-past t command clock events only in
    record { tables = before.tables; version = before.version; clock_set = before.clock_set; moments = before.moments }
new-past t command clock (Tick ∷ events) only = absurd only
new-past t command clock (Input field ∷ events) only = absurd only
new-past t command clock (Install u ∷ events) only = absurd only
new-past t command clock (SetPattern n ∷ events) only = absurd only
new-past t command clock (SetClock time ∷ events) only = absurd only
new-past t command clock (Ask request ∷ events) only = absurd only
new-past t command clock (Cancel number ∷ events) only = absurd only

past-is : (h : History) → IsNew h → NewPast h.tables h.clock (past_at h)
past-is h new = new-past h.tables h.command h.clock h.events new.events

pub new-sound : (h : History) → IsNew h → IsSound 0 (record { history = h; calls = [] })
new-sound h new =
    let p = past-is h new in
    let t = h.tables in
    record {
      ticks = sym (ap (λ (ms : List Moment). length (frames_in ms)) p.moments);
      shows = record {
        clock = subst (λ (o : Option ℕ). clock_told o (last_moment (past_at h).tables (past_at h).moments) < 864000) (sym p.clock_set) new.of_day;
        counter = subst (λ (ms : List Moment). (last_frame ms).counter ≤ 2147483647) (sym p.moments) (omega arith);
        target = subst (λ (ms : List Moment). (last_frame ms).target ≤ 2147483647) (sym p.moments) (omega arith);
      };
      fits = subst EachFits (sym p.tables) new.fits;
      begins = tt;
      few = (p.version, refl);
      ids = omega arith;
    }

pub new-ticks : (c : Control) (h : History) → ControlStands c h → IsNew h → tick_count c ≡ 0
new-ticks c h k new =
    let p = past-is h new in
    let one : length (past_at h).moments ≡ 1 = ap (λ (ms : List Moment). length ms) p.moments in
    let number : (last_moment (past_at h).tables (past_at h).moments).number ≡ 0 =
    ap (λ (ms : List Moment). (last_moment (past_at h).tables ms).number) p.moments in
    first-ticks c h k one number
