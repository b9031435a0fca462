-- The stored commands and the stored clock of a cabinet are what looking back gives.
use Rattle.std.specs.Prelude.{ℕ, ◌≡◌, ◌+◌, min, not, Bool, if◌then◌else◌, List}
use Rattle.sig_tables.specs.Past.{Past, Moment}
use Rattle.sig_tables.specs.Looking.{in_a_row}
use Rattle.sig_tables.specs.Command.{is_commanded, command_now}
use Rattle.sig_tables.specs.Clock.{clock_now}
use Rattle.sig_tables.specs.Showing.{command_shown, clock_shown}
use Rattle.sig_tables.specs.Seen.{moment_seen}
use Rattle.tick_context.specs.declared.unit_commands.UnitCommands.{UnitCommands}

-- the number of ticks since the last command of a pattern; 0 if there was one since the last frame
abbrev pub ticks_since : Bool → List Moment → ℕ
ticks_since commanded past = if commanded then 0 else in_a_row (λ m. not m.is_commanded) past + 1

-- the greatest count that is stored
abbrev pub most : ℕ
most = 4294967295

-- the number of ticks that were counted
abbrev pub counted_ticks : UnitCommands → ℕ
counted_ticks o = o.ticks

-- the stored commands and the clock are those that looking back gives
pub record UnitCommandsStand (o : UnitCommands) (past : Past) : Type 0 where
  pub command : o.command ≡ command_shown past
  pub since : o.since ≡ min (ticks_since (is_commanded past.commanded) past.moments) most
  pub clock : o.clock ≡ clock_shown past
  pub ticks : o.ticks ≡ (moment_seen past).number
  pub gain : o.gain ≡ past.gain
  pub lose : o.lose ≡ past.lose

-- the moment saw the commands and the clock that the past gives
pub record SawUnitCommands (past : Past) (m : Moment) : Type 0 where
  pub number : m.number ≡ (moment_seen past).number + 1
  pub command : m.command ≡ command_now past
  pub is_commanded : m.is_commanded ≡ is_commanded past.commanded
  pub clock : m.clock ≡ clock_now past
