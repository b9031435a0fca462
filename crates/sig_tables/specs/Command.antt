-- The commanded pattern: the last one that a command named, until the backup time has passed since that command.
use Rattle.std.specs.Prelude.{ℕ, ◌-◌, ◌*◌, ◌&&◌, not, nat_le, Bool, true, false, if◌then◌else◌, List, Option, Some, None}
use Rattle.sig_tables.specs.declared.tables.Tables.{Tables}
use Rattle.sig_tables.specs.Past.{Past, Moment}
use Rattle.sig_tables.specs.Looking.{lasts_now, last_moment}

-- the pattern that a command named since the last frame, otherwise the pattern commanded at that frame
abbrev pub command_told : Option ℕ → Moment → ℕ
command_told (Some n) m = n
command_told None m = m.command

-- there was a command since the last frame
abbrev pub is_commanded : Option ℕ → Bool
is_commanded (Some n) = true
is_commanded None = false

-- the backup time has passed since the last command: none of the last ticks, this one included, saw a command. The
-- number of these ticks is one less than the backup time, since the tick that saw the command is its first. A backup
-- time of 0 never passes
abbrev pub is_backed_up : Tables → Bool → List Moment → Bool
is_backed_up t commanded past =
    nat_le 1 t.unit.backup && lasts_now (10 * t.unit.backup - 1) (not commanded) (λ m. not m.is_commanded) past

-- the commanded pattern at this tick; 0 once the backup time has passed
abbrev pub command_now : Past → ℕ
command_now past =
    if is_backed_up past.tables (is_commanded past.commanded) past.moments then 0
    else command_told past.commanded (last_moment past.tables past.moments)
