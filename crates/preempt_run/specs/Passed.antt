-- The registers of preemption after skipped ticks.
use Rattle.std.specs.Prelude.{ℕ, ◌≡◌, ◌+◌, []}
use Rattle.sig_types.specs.PhaseSet.{phases_of}
use Rattle.preempt_run.specs.declared.Preempts.{Preempts}

-- the registers after k more ticks at which nothing changes
abbrev pub passed : ℕ → Preempts → Preempts
passed k c = record c { steps = c.steps + k }

-- no preempt input was on at the last tick, and no phase is counted for a dwell
pub record IsClear (c : Preempts) : Type 0 where
  pub inputs : phases_of c.inputs.members ≡ []
  pub green : phases_of c.green.members ≡ []
  pub off : phases_of c.off.members ≡ []
