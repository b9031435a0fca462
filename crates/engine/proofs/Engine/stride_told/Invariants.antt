use Rattle.std.proofs.Common.{◌≡◌, ◌≤◌, ◌+◌, ◌-◌, ℕ, false}
use Rattle.sig_tables.specs.Past.{Past, History}
use Rattle.engine.specs.declared.Engine.{Engine}
use Rattle.tick_context.specs.Strides.{is_told, ticks_more}
use Rattle.engine.specs.EngineStands.{EngineStands, tick_count, install_count}
use Rattle.engine.proofs.Engine.stride_told.Given as goal

-- N ticks were taken, and all of them gave plain frames
pub record Taken {M : Type 0} (remembers : M → Past → Type 0) (frames : M → ℕ) (old new : Engine M) (done n : ℕ) : Type 0 where
  pub within : done ≤ n
  pub stands : (h : History) → EngineStands remembers old h → EngineStands remembers new (ticks_more done h)
  pub plain : (h : History) (k : ℕ) → EngineStands remembers old h → k ≤ done → is_told h k ≡ false
  pub ticks : tick_count frames new ≡ tick_count frames old + done
  pub installs : install_count new ≡ install_count old

abbrev pub invariant-loop-done : goal.invariant-loop-done
invariant-loop-done g l = Taken g.M.Memory.remembers g.M.Memory.frames l.fn.self l.self l.done l.n

abbrev pub decreases-loop-done : goal.decreases-loop-done
decreases-loop-done g l = l.n - l.done
