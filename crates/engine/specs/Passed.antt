-- Skipped ticks.
use Rattle.std.specs.Prelude.{ℕ}
use Rattle.tick_context.specs.Even.{IsEven}
use Rattle.engine.specs.declared.Engine.{Engine}

-- at each of the next k ticks the commanded pattern stays the same and the clock advances by one tick
abbrev pub GoesEvenly : {M : Type 0} → Engine M → ℕ → Type 0
GoesEvenly e k = IsEven e.context.unit_commands e.context.tables k
