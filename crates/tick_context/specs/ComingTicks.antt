-- What the context shows of coming ticks, by its last frame and its stored pattern.
use Rattle.std.specs.Prelude.{ℕ, ◌-◌, ◌==◌, ◌&&◌, ◌||◌, not, nat_le, Bool, true, false, get_or, if◌then◌else◌}
use Rattle.sig_types.specs.declared.frame.Mode.{Mode}
use Rattle.sig_types.specs.declared.frame.Mode.TheVariants.{Free, Coord}
use Rattle.sig_types.specs.PhaseSet.{has}
use Rattle.sig_tables.specs.Slots.{is_defined}
use Rattle.tick_context.specs.declared.context.TickContext.{TickContext}
use Rattle.tick_context.specs.Modes.{is_coord}
use Rattle.tick_context.specs.Passed.{planned_target}
use Rattle.tick_context.specs.UnitCommands.{most}

-- a cabinet in this mode is in free operation, or coordinated in the stored pattern (0 is none)
abbrev pub is_bound_in : Mode → ℕ → Bool
is_bound_in Free kept = true
is_bound_in (Coord n) kept = not (n == 0) && n == kept
is_bound_in mode kept = false

-- neither flash nor a defined pattern is commanded, and the last frame has counter 0 and target 0
abbrev pub is_left_free : TickContext → Bool
is_left_free c =
    not (c.unit_commands.command == 255)
    && (not (is_defined c.tables c.unit_commands.command) && (c.frame.counter == 0 && c.frame.target == 0))

-- the number of ticks that pass before the force point of phase p in the stored pattern
abbrev pub ticks_to_force : TickContext → ℕ → ℕ
ticks_to_force c p = get_or c.active_pattern.plan.force (p - 1) 0 - 1 - c.frame.counter

-- the number of ticks for which the stored pattern doesn't force phase p off; `most` if it never does
abbrev pub ticks_unforced : TickContext → ℕ → ℕ
ticks_unforced c p =
    if is_coord c.frame.mode && not (has c.active_pattern.options.coordinated p) then ticks_to_force c p else most

-- the counter of the last frame needs no correction: it is past the window of the stored pattern, or equals the target
abbrev pub is_on_target : TickContext → Bool
is_on_target c =
    nat_le c.active_pattern.plan.window c.frame.counter
    || (planned_target c.active_pattern.plan c.unit_commands.clock == c.frame.counter)

-- the number of ticks for which this counter advances by one within the cycle; 0 if it needs a correction
abbrev pub ticks_in_cycle : TickContext → ℕ
ticks_in_cycle c = if is_on_target c then c.active_pattern.plan.cycle - 1 - c.frame.counter else 0
