-- The state of a tick, for what both engines store.
use Rattle.sig_tables.specs.Past.{Past}
use Rattle.sig_tables.specs.Seen.{mode_seen}
use Rattle.tick_context.specs.declared.context.TickContext.{TickContext}
use Rattle.tick_context.specs.declared.tick_state.TickState.{TickState}
use Rattle.tick_context.specs.Binds.{IsBound}
use Rattle.tick_context.specs.Context.{ContextStands}
use Rattle.tick_context.specs.TickState.{TickStateIs}

-- the context represents the past, the tick has this state, and the stored pattern is that of its mode
pub record ContextRuns (c : TickContext) (k : TickState) (past : Past) : Type 0 where
  pub context : ContextStands c past
  pub tick_state : TickStateIs k past
  pub bound : IsBound c.active_pattern past.tables (mode_seen past)
