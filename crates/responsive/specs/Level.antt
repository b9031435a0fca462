-- The level of a section by its counted traffic. Levels are counted from 0, and step i of a rule leads to level i.
use Rattle.std.specs.Prelude.{ℕ, zero, suc, ◌-◌, ◌<◌, ◌≤◌, ◌&&◌, nat_le, nat_lt, Bool, if◌then◌else◌, List, length, get_or}
use Rattle.responsive.specs.declared.Step.{Step}

-- the volume reaches the step: it is at least the step's `up`
abbrev pub up_met : ℕ → Step → Bool
up_met volume s = nat_le s.up volume

-- the volume holds the step: it is at least the step's `down`
abbrev pub down_met : ℕ → Step → Bool
down_met volume s = nat_le s.down volume

-- the step that leads to level i + 1
abbrev pub step_to : List Step → ℕ → Step
step_to steps i = get_or steps i (record { up = 0; down = 0; pattern = 0 })

-- the highest level up to `n` whose step passes the test; 0 if there is none
abbrev pub greatest : (Step → Bool) → List Step → ℕ → ℕ
greatest met steps zero = 0
greatest met steps (suc n) = if met (step_to steps n) then suc n else greatest met steps n

-- the next level. If the volume reaches a step above the present level, it is the highest level that is reached.
-- Otherwise, if the volume is below the `down` of the present level, it is the highest lower level that the volume
-- holds. Otherwise the level stays
abbrev pub level : List Step → ℕ → ℕ → ℕ
level steps now volume =
    if nat_lt now (greatest (up_met volume) steps (length steps)) then greatest (up_met volume) steps (length steps)
    else if nat_lt 0 now && nat_lt volume (step_to steps (now - 1)).down then greatest (down_met volume) steps (now - 1)
    else now

-- the level stays: the volume reaches no step above it, and the level is 0 or the volume holds it
pub record Stays (steps : List Step) (now volume : ℕ) : Type 0 where
  pub above : (i : ℕ) → now ≤ i → i < length steps → volume < (step_to steps i).up
  pub own : 0 < now → (step_to steps (now - 1)).down ≤ volume
