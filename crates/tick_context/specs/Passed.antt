-- What skipped ticks change in a frame.
use Rattle.std.specs.Prelude.{ℕ, ◌≡◌, ◌+◌, ◌-◌, ◌%◌, Bool, true, false}
use Rattle.sig_types.specs.declared.frame.Frame.{Frame}
use Rattle.sig_tables.specs.declared.plan.Plan.{Plan}
use Rattle.tick_context.specs.declared.context.TickContext.{TickContext}
use Rattle.tick_context.specs.declared.unit_commands.UnitCommands.{UnitCommands}
use Rattle.tick_context.specs.Modes.{is_coord}

-- the frame; in Coord with this counter and this target
abbrev pub timed : Bool → ℕ → ℕ → Frame → Frame
timed true counter target f = record f { counter = counter; target = target }
timed false counter target f = f

-- the target of a plan at this time of the day
abbrev pub planned_target : Plan → ℕ → ℕ
planned_target plan clock = (clock + plan.shift + (plan.cycle - plan.offset % plan.cycle)) % plan.cycle

-- the context with these commands; in Coord also with this counter, and the target at the time of its clock
abbrev pub gone_on : ℕ → TickContext → UnitCommands → TickContext
gone_on counter c o = record c {
  frame = timed (is_coord c.frame.mode) counter (planned_target c.active_pattern.plan o.clock) c.frame;
  unit_commands = o;
}

-- `new` is `old` after skipped ticks, with the commands of `new`
abbrev pub HasGoneOn : ℕ → TickContext → TickContext → Type 0
HasGoneOn counter old new = new ≡ gone_on counter old new.unit_commands
