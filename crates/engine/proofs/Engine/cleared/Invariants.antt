use Rattle.sig_tables.specs.Past.{Past}
use Rattle.sig_tables.specs.Calls.{is_green}
use Rattle.sig_tables.specs.Seen.{frame_seen, view_seen}
use Rattle.ring_barrier.specs.Shows.{is_leaving}
use Rattle.engine.specs.Runs.{Runs}
use Rattle.engine.proofs.Visiting.{Visited}
use Rattle.engine.proofs.Engine.cleared.Given as goal

abbrev pub invariant-loop : goal.invariant-loop
invariant-loop g l =
    (past : Past) → Runs g.M.Memory.remembers l.self l.tick_state past → Visited l.cleared l.rest l.counter (is_green (frame_seen past)) (is_leaving (view_seen past))
