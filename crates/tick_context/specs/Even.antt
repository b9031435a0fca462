-- Ticks at which the commanded pattern stays the same and the clock advances by one tick.
use Rattle.std.specs.Prelude.{ℕ, ◌≡◌, ◌<◌, ◌≤◌, ◌+◌, ◌-◌, ◌*◌, ◌⊎◌, ◌==◌, ◌&&◌, ◌||◌, min, if◌then◌else◌}
use Rattle.sig_tables.specs.declared.tables.Tables.{Tables}
use Rattle.tick_context.specs.declared.unit_commands.UnitCommands.{UnitCommands}
use Rattle.tick_context.specs.UnitCommands.{most}

-- at each of the next k ticks the commanded pattern stays the same, by these tables, and the clock advances by one tick
-- within the day
pub record IsEven (o : UnitCommands) (t : Tables) (k : ℕ) : Type 0 where
  pub clock : o.clock + k < 864000
  pub gain : o.gain ≡ 0
  pub lose : o.lose ≡ 0
  pub few : t.unit.backup ≤ 65535
  pub command : (o.command ≡ 0) ⊎ ((t.unit.backup ≡ 0) ⊎ (o.since + k < 10 * t.unit.backup))

-- the number of such ticks, at most `most`: 0 if the clock drifts, otherwise as many as the day and the backup time
-- allow
abbrev pub even_ticks : UnitCommands → Tables → ℕ → ℕ
even_ticks o t most =
    if o.gain == 0 && o.lose == 0
    then (if o.command == 0 || t.unit.backup == 0
    then min most (863999 - o.clock)
    else min (min most (863999 - o.clock)) (10 * t.unit.backup - 1 - o.since))
    else 0

-- `new` is `old` after k such ticks
pub record UnitCommandsPassed (k : ℕ) (old new : UnitCommands) : Type 0 where
  pub command : new.command ≡ old.command
  pub since : new.since ≡ min (old.since + k) most
  pub clock : new.clock ≡ old.clock + k
  pub ticks : new.ticks ≡ old.ticks + k
  pub gain : new.gain ≡ old.gain
  pub lose : new.lose ≡ old.lose
