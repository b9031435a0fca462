-- The state of a tick, for an engine.
use Rattle.sig_tables.specs.Past.{Past}
use Rattle.sig_tables.specs.Seen.{mode_seen}
use Rattle.tick_context.specs.declared.tick_state.TickState.{TickState}
use Rattle.tick_context.specs.Binds.{IsBound}
use Rattle.tick_context.specs.TickState.{TickStateIs}
use Rattle.engine.specs.declared.Engine.{Engine}
use Rattle.engine.specs.EngineStands.{EngineKeeps}

-- the engine represents the past, the tick has this state, and the stored pattern is that of its mode
pub record Runs {M : Type 0} (remembers : M → Past → Type 0) (e : Engine M) (k : TickState) (past : Past) : Type 0 where
  pub keeps : EngineKeeps remembers e past
  pub tick_state : TickStateIs k past
  pub bound : IsBound e.context.active_pattern past.tables (mode_seen past)
