-- The stored times are those of the present colours and pedestrian signals.
use Rattle.std.specs.Prelude.{ℕ, ◌≡◌, ◌<◌, ◌≤◌, ◌-◌, List, get_or}
use Rattle.sig_tables.specs.Past.{Moment}
use Rattle.sig_tables.specs.Looking.{last_frame}
use Rattle.look_back.specs.declared.latched.Latched.{Latched}
use Rattle.look_back.specs.Latched.{ColourLatched, SignalLatched}

-- the latched times represent these moments: the colours and signals are those of the last frame, and the times of each
-- phase are those in force when its colour and its signal began
pub record LatchedStands (l : Latched) (past : List Moment) : Type 0 where
  pub veh : l.veh ≡ (last_frame past).veh
  pub ped : l.ped ≡ (last_frame past).ped
  pub colours : (p : ℕ) → 0 < p → p ≤ 16 → ColourLatched (get_or l.colours (p - 1) 0) p past
  pub signals : (p : ℕ) → 0 < p → p ≤ 16 → SignalLatched (get_or l.signals (p - 1) 0) p past
