-- What stays the same at a tick that isn't a disturbance.
use Rattle.std.specs.Prelude.{true, false, ◌≡◌, ◌⊎◌, ◌<◌, ◌+◌, ◌%◌}
use Rattle.sig_tables.specs.Slots.{is_defined, cycle_time}
use Rattle.sig_tables.specs.Clock.{day}
use Rattle.sig_tables.specs.Past.{Moment}
use Rattle.plan_facts.specs.Disturbances.{Drift, rise, interrupts}

-- moment m continues moment l: it has the same commanded pattern and version, its clock has advanced with the drift, no
-- midnight has shifted the target, and its mode doesn't interrupt coordination
pub record CounterGoesOn (d : Drift) (m l : Moment) : Type 0 where
  pub command : m.command ≡ l.command
  pub version : m.frame.version ≡ l.frame.version
  pub clock : m.clock ≡ (l.clock + rise d m.number) % day
  pub midnight : is_defined m.tables m.command ≡ true → (l.clock + rise d m.number < day) ⊎ (day % cycle_time m.tables m.command ≡ 0)
  pub mode : interrupts m.frame.mode ≡ false
