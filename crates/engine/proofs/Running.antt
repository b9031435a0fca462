-- What a tick of an engine is about, except its memory.
use Rattle.sig_tables.specs.Past.{Past}
use Rattle.engine.specs.declared.Engine.{Engine}
use Rattle.tick_context.specs.declared.tick_state.TickState.{TickState}
use Rattle.tick_context.specs.Runs.{ContextRuns}
use Rattle.engine.specs.Runs.{Runs}

pub runs-context : {M : Type 0} {remembers : M → Past → Type 0} (c : Engine M) (k : TickState) (past : Past) → Runs remembers c k past → ContextRuns c.context k past
runs-context c k past r = record { context = r.keeps.context; tick_state = r.tick_state; bound = r.bound }
