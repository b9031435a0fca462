-- The clocks of the phases after skipped ticks.
use Rattle.std.specs.Prelude.{ℕ, ◌≡◌, ◌≤◌, ◌+◌, ◌&&◌, not}
use Rattle.sig_types.specs.declared.phase_set.PhaseSet.{PhaseSet}
use Rattle.sig_types.specs.PhaseSet.{has}
use Rattle.phase_clock.specs.declared.Clocks.{Clocks}

-- the clocks after k more ticks at which nothing changes
abbrev pub passed : ℕ → Clocks → Clocks
passed k c = record c { steps = c.steps + k }

-- at the last tick the same phases were quiet and opposed as with these active and these opposed phases
pub record IsSteady (c : Clocks) (active opposed : PhaseSet) : Type 0 where
  pub quiet : (p : ℕ) → p ≤ 16 → has c.quiet.members p ≡ (has c.green p && not (has active p))
  pub pressed : (p : ℕ) → has c.opposed.members p ≡ (has c.green p && has opposed p)
