-- The phases that were on last since start-up, after one more frame.
use Rattle.std.specs.Prelude.{ℕ, ◌==◌, Bool, if◌then◌else◌}

-- the phase that was on last in a ring, or 0, after a frame with this phase on
abbrev pub on_after : ℕ → Bool → ℕ → ℕ
on_after before starts on = if starts then 0 else if on == 0 then before else on

-- a phase of the latest frame with any phase on, or 0, after a frame with these phases on
abbrev pub latest_after : ℕ → Bool → ℕ → ℕ → ℕ
latest_after before starts first second =
    if starts then 0 else if first == 0 then (if second == 0 then before else second) else first
