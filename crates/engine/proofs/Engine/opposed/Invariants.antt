use Rattle.std.proofs.Common.{◌≡◌, ℕ, List}
use Rattle.sig_types.specs.Phases.{is_in}
use Rattle.sig_types.specs.PhaseSet.{phases_of}
use Rattle.sig_tables.specs.Past.{Past}
use Rattle.sig_tables.specs.Calls.{is_green, opposed_of}
use Rattle.sig_tables.specs.Seen.{frame_seen}
use Rattle.engine.specs.EngineStands.{EngineKeeps}
use Rattle.engine.proofs.Visiting.{Visited}
use Rattle.engine.proofs.Engine.opposed.Given as goal

abbrev pub invariant-loop : goal.invariant-loop
invariant-loop g l =
    (past : Past) (phases : List ℕ) → EngineKeeps g.M.Memory.remembers l.self past → phases_of l.demand ≡ phases
    → Visited l.opposed l.rest l.counter (is_green (frame_seen past)) (is_in (opposed_of past.tables (frame_seen past) phases))
