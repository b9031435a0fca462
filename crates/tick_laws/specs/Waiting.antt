-- Calls that wait until their phase serves them (NEMA TS 2, locking memory).
use Rattle.std.specs.Prelude.{ℕ, ◌≡◌, ◌||◌, Bool, false, List, [], ◌∷◌, ◌++◌}
use Rattle.sig_types.specs.declared.frame.Colour.TheVariants.{Green, Red}
use Rattle.sig_types.specs.declared.frame.Mode.TheVariants.{Free}
use Rattle.sig_types.specs.declared.frame.Frame.{Frame}
use Rattle.sig_types.specs.Colour.{colour_of}
use Rattle.sig_tables.specs.Past.{Event, Tick, History}
use Rattle.sig_tables.specs.Decide.{decide, last_frame_of}

-- the history with these later events, newest first
abbrev pub with_more : List Event → History → History
with_more later h = record { tables = h.tables; command = h.command; clock = h.clock; events = later ++ h.events }

-- some frame of these later events serves phase p
abbrev pub is_served_in : (Frame → ℕ → Bool) → List Event → History → ℕ → Bool
is_served_in serves [] h p = false
is_served_in serves (Tick ∷ later) h p = serves (decide (with_more later h)) p || is_served_in serves later h p
is_served_in serves (_ ∷ later) h p = is_served_in serves later h p

-- the green of phase p begins at the next tick, which is in free operation
pub record BeginsFree (h : History) (p : ℕ) : Type 0 where
  pub mode : (decide h).mode ≡ Free
  pub red : colour_of (last_frame_of h) p ≡ Red
  pub green : colour_of (decide h) p ≡ Green
