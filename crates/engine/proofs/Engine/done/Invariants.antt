use Rattle.std.proofs.Common.{◌&&◌}
use Rattle.sig_tables.specs.Tables.{is_enabled}
use Rattle.sig_tables.specs.Past.{Past}
use Rattle.sig_tables.specs.Calls.{is_green}
use Rattle.sig_tables.specs.View.{is_done}
use Rattle.sig_tables.specs.Seen.{frame_seen, view_seen}
use Rattle.engine.specs.Runs.{Runs}
use Rattle.tick_context.specs.Sees.{Sees}
use Rattle.engine.proofs.Visiting.{Visited}
use Rattle.engine.proofs.Engine.done.Given as goal

abbrev pub invariant-loop : goal.invariant-loop
invariant-loop g l =
    (past : Past) → Runs g.M.Memory.remembers l.self l.tick_state past → Sees l.tick_inputs past
    → Visited l.done l.rest l.counter (λ p. is_enabled past.tables p && is_green (frame_seen past) p) (is_done (view_seen past))
