-- A cabinet coordinated in a pattern: what its phases show at each counter of the cycle, and for how long they have
-- shown it (FHWA Signal Timing Manual: coordination, force-off, local zero). Counters are in ticks from local zero.
use Rattle.std.specs.Prelude.{ℕ, ◌≡◌, ◌≢◌, ◌<◌, ◌⊎◌, true, false, List}
use Rattle.sig_types.specs.declared.frame.Colour.TheVariants.{Green, Red}
use Rattle.sig_types.specs.declared.frame.Frame.{Frame}
use Rattle.sig_types.specs.declared.frame.Mode.TheVariants.{Coord}
use Rattle.sig_types.specs.Colour.{colour_of, signal_of, on_in}
use Rattle.sig_tables.specs.declared.tables.Tables.{Tables}
use Rattle.sig_tables.specs.Tables.{ring_of, is_enabled}
use Rattle.sig_tables.specs.Slots.{is_defined, is_coordinated, is_omitted, cycle_time, window, force_point}
use Rattle.sig_tables.specs.Past.{Moment}
use Rattle.sig_tables.specs.Looking.{last_frame}
use Rattle.tick_laws.specs.Phases.{SignalStands}
use Rattle.tick_laws.specs.Zero.{InTime, ZeroHolds}
use Rattle.tick_laws.specs.Each.{EachMoment}

-- conditions on a moment in Coord of pattern n. Each coordinated phase is Green before its force point. No other phase
-- is on before the end of the window, or Green from its force point on. A phase that the pattern omits is Red. So at
-- local zero the coordinated phases are Green and every other phase is Red
pub record Coordinated (t : Tables) (n : ℕ) (m : Moment) : Type 0 where
  pub within : m.frame.counter < cycle_time t n
  pub held : (q : ℕ) → is_coordinated t n q ≡ true → m.frame.counter < force_point t n q → colour_of m.frame q ≡ Green
  pub window : (p : ℕ) → is_enabled t p ≡ true → is_coordinated t n p ≡ false → m.frame.counter < window t n → colour_of m.frame p ≡ Red
  pub forced : (p : ℕ) → is_enabled t p ≡ true → is_coordinated t n p ≡ false → colour_of m.frame p ≡ Green
      → m.frame.counter < force_point t n p
  pub omitted : (p : ℕ) → is_enabled t p ≡ true → is_coordinated t n p ≡ false → is_omitted t n p ≡ true → colour_of m.frame p ≡ Red
  pub zero : m.frame.counter ≡ 0 → ZeroHolds t n m

-- each moment in Coord of a pattern meets these conditions, by the tables in force at its tick
abbrev pub EachCoordinated : List Moment → Type 0
EachCoordinated moments = EachMoment (λ past m. (n : ℕ) → m.frame.mode ≡ Coord n → Coordinated m.tables n m) moments

-- the frame's entry for each ring is 0 or an enabled phase of this ring that is on
abbrev pub NamesOn : Tables → Frame → Type 0
NamesOn t f = (r : ℕ) → (r ≡ 1) ⊎ (r ≡ 2)
    → (on_in f r ≡ 0) ⊎ ((is_enabled t (on_in f r) ≡ true) × (colour_of f (on_in f r) ≢ Red) × (ring_of t (on_in f r) ≡ r))

-- what is known after a frame in Coord of pattern n. The pattern is defined, and the counter is within the cycle. Every
-- phase is in time. The frame's entries for the rings are phases that are on. The walk of a phase that isn't
-- coordinated began with its Green
pub record InStep (t : Tables) (n : ℕ) (moments : List Moment) : Type 0 where
  pub defined : is_defined t n ≡ true
  pub within : (last_frame moments).counter < cycle_time t n
  pub in_time : InTime t n (last_frame moments).counter moments
  pub named : NamesOn t (last_frame moments)
  pub walks : (p : ℕ) → is_enabled t p ≡ true → is_coordinated t n p ≡ false → SignalStands t p moments (signal_of (last_frame moments) p)
