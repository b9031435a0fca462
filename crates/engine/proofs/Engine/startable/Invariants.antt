use Rattle.std.proofs.Common.{◌&&◌}
use Rattle.sig_types.specs.declared.frame.Colour.TheVariants.{Red}
use Rattle.sig_types.specs.Colour.{same_colour, colour_of}
use Rattle.sig_tables.specs.Tables.{is_enabled}
use Rattle.sig_tables.specs.Past.{Past}
use Rattle.sig_tables.specs.View.{is_startable}
use Rattle.sig_tables.specs.Seen.{frame_seen, view_seen}
use Rattle.engine.specs.EngineStands.{EngineKeeps}
use Rattle.engine.proofs.Visiting.{Visited}
use Rattle.engine.proofs.Engine.startable.Given as goal

abbrev pub invariant-loop : goal.invariant-loop
invariant-loop g l =
    (past : Past) → EngineKeeps g.M.Memory.remembers l.self past
    → Visited l.startable l.rest l.counter (λ p. is_enabled past.tables p && same_colour (colour_of (frame_seen past) p) Red) (is_startable (view_seen past))
