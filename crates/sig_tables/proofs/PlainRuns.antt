-- A cabinet that is opened with no pattern and no flash in command, and to which only ticks, detectors and buttons
-- come, is only about Start and Free.
use Rattle.std.proofs.Common.{◌≡◌, ◌⊎◌, inl, inr, ℕ, Bool, true, false, ◌==◌, if◌then◌else◌, List, [], ◌∷◌, ◌++◌, refl, ◌∙◌, ap}
use Rattle.sig_types.specs.declared.frame.Colour.{Colour}
use Rattle.sig_types.specs.declared.frame.Field.TheVariants.{Veh, Ped as Button, Preempt as PreemptInput}
use Rattle.sig_types.specs.declared.frame.Mode.{Mode}
use Rattle.sig_types.specs.declared.frame.Mode.TheVariants.{Start, Free}
use Rattle.sig_types.specs.Phases.{is_in, those}
use Rattle.sig_tables.specs.declared.tables.Tables.{Tables}
use Rattle.sig_tables.specs.Slots.{is_defined}
use Rattle.sig_tables.specs.Past.{Event, Tick, Input, Install, SetPattern, SetClock, Ask, Cancel, SetDrift, Past}
use Rattle.sig_tables.specs.Looking.{last_frame, last_moment}
use Rattle.sig_tables.specs.Command.{command_told, command_now, is_backed_up, is_commanded}
use Rattle.sig_tables.specs.Preempts.{all_preempts, preempts_on}
use Rattle.sig_tables.specs.Choosing.{mode_reached}
use Rattle.sig_tables.specs.TickState.{tick_state_of}
use Rattle.sig_tables.specs.Ticking.{colours_of}
use Rattle.sig_tables.specs.Seen.{moves_seen}
use Rattle.sig_tables.specs.Decide.{opening_commands, with_event, past_of}
use Rattle.sig_tables.specs.Plain.{is_plain, RunsPlain, OnlyStreet, Plain}
use Rattle.sig_tables.proofs.FreeTickState.{mode-plain}

-- the command is the opening one or none, no preempt input is on, and the last frame is in Start or Free
record Calm (t : Tables) (command : ℕ) (past : Past) : Type 0 where
  tables : past.tables ≡ t
  told : (command_told past.commanded (last_moment past.tables past.moments) ≡ command)
      ⊎ (command_told past.commanded (last_moment past.tables past.moments) ≡ 0)
  preempts : preempts_on past.heard (last_moment past.tables past.moments) ≡ []
  mode : is_plain (last_frame past.moments).mode ≡ true

commands : (t : Tables) (command : ℕ) (past : Past) → Calm t command past → (command_now past ≡ command) ⊎ (command_now past ≡ 0)
commands t command past c = split (is_backed_up past.tables (is_commanded past.commanded) past.moments) c.told
  where
    split : (b : Bool)
        → (command_told past.commanded (last_moment past.tables past.moments) ≡ command) ⊎ (command_told past.commanded (last_moment past.tables past.moments) ≡ 0)
        → ((if b then 0 else command_told past.commanded (last_moment past.tables past.moments)) ≡ command)
        ⊎ ((if b then 0 else command_told past.commanded (last_moment past.tables past.moments)) ≡ 0)
    split true h = inr refl
    split false h = h

calm-plain : (t : Tables) (command : ℕ) (past : Past) → is_defined t command ≡ false → (command == 255) ≡ false → Calm t command past → RunsPlain past
calm-plain t command past d f c = record {
  no_pattern = ap (λ (u : Tables). is_defined u (command_now past)) c.tables ∙ elim (commands t command past c) [
    | inl e ↦ ap (is_defined t) e ∙ d
    | inr e ↦ ap (is_defined t) e
  ];
  no_flash = elim (commands t command past c) [
    | inl e ↦ ap (λ (n : ℕ). n == 255) e ∙ f
    | inr e ↦ ap (λ (n : ℕ). n == 255) e
  ];
  no_preempt = c.preempts;
  plain = c.mode;
}

plain-reached : (t : Tables) (veh : List Colour) (m : Mode) (b : Bool) → m ≡ (if b then Start else Free) → is_plain (mode_reached m t veh) ≡ true
plain-reached t veh m true e = ap (λ (x : Mode). is_plain (mode_reached x t veh)) e
plain-reached t veh m false e = ap (λ (x : Mode). is_plain (mode_reached x t veh)) e

ticked-calm : (t : Tables) (command : ℕ) (past : Past) → is_defined t command ≡ false → (command == 255) ≡ false → Calm t command past
    → Calm t command (with_event Tick past)
ticked-calm t command past d f c = record {
  tables = c.tables;
  told = commands t command past c;
  preempts = ap (λ (on : List ℕ). those (λ i. is_in on i) all_preempts) c.preempts;
  mode = plain-reached past.tables (colours_of past (moves_seen past)) (tick_state_of past).mode _ (mode-plain past (calm-plain t command past d f c));
}

calm : (t : Tables) (command clock : ℕ) (events : List Event) → is_defined t command ≡ false → (command == 255) ≡ false → OnlyStreet events
    → Calm t command (past_of t (events ++ opening_commands command clock))
calm t command clock [] d f h = record { tables = refl; told = inl refl; preempts = refl; mode = refl }
calm t command clock (Tick ∷ events) d f h =
    ticked-calm t command (past_of t (events ++ opening_commands command clock)) d f (calm t command clock events d f h.1)
calm t command clock (Input (Veh p on) ∷ events) d f h =
    let c : Calm t command (past_of t (events ++ opening_commands command clock)) = calm t command clock events d f h.1 in
    record { tables = c.tables; told = c.told; preempts = c.preempts; mode = c.mode }
calm t command clock (Input (Button p) ∷ events) d f h =
    let c : Calm t command (past_of t (events ++ opening_commands command clock)) = calm t command clock events d f h.1 in
    record { tables = c.tables; told = c.told; preempts = c.preempts; mode = c.mode }
calm t command clock (Input (PreemptInput i on) ∷ events) d f h = absurd h.0
calm t command clock (Install u ∷ events) d f h = absurd h.0
calm t command clock (SetPattern n ∷ events) d f h = absurd h.0
calm t command clock (SetClock n ∷ events) d f h = absurd h.0
calm t command clock (Ask request ∷ events) d f h = absurd h.0
calm t command clock (Cancel number ∷ events) d f h = absurd h.0
calm t command clock (SetDrift gain lose ∷ events) d f h =
    let c : Calm t command (past_of t (events ++ opening_commands command clock)) = calm t command clock events d f h.1 in
    record { tables = c.tables; told = c.told; preempts = c.preempts; mode = c.mode }

-- the next tick is only about Start and Free
pub runs-plain : (t : Tables) (command clock : ℕ) (events : List Event) → is_defined t command ≡ false → (command == 255) ≡ false → OnlyStreet events
    → RunsPlain (past_of t (events ++ opening_commands command clock))
runs-plain t command clock events d f h =
    calm-plain t command (past_of t (events ++ opening_commands command clock)) d f (calm t command clock events d f h)

-- and so was each before
pub all-plain : (t : Tables) (command clock : ℕ) (events : List Event) → is_defined t command ≡ false → (command == 255) ≡ false → OnlyStreet events
    → Plain t (events ++ opening_commands command clock)
all-plain t command clock [] d f h = (tt, (tt, tt))
all-plain t command clock (Tick ∷ events) d f h = (runs-plain t command clock events d f h.1, all-plain t command clock events d f h.1)
all-plain t command clock (Input field ∷ events) d f h = (tt, all-plain t command clock events d f h.1)
all-plain t command clock (SetDrift gain lose ∷ events) d f h = (tt, all-plain t command clock events d f h.1)
all-plain t command clock (Install u ∷ events) d f h = absurd h.0
all-plain t command clock (SetPattern n ∷ events) d f h = absurd h.0
all-plain t command clock (SetClock n ∷ events) d f h = absurd h.0
all-plain t command clock (Ask request ∷ events) d f h = absurd h.0
all-plain t command clock (Cancel number ∷ events) d f h = absurd h.0
