use Rattle.std.proofs.Common.{◌≡◌, length}
use Rattle.sig_types.specs.declared.frame.Colour.TheVariants.{Green}
use Rattle.sig_types.specs.Colour.{colour_of}
use Rattle.sig_tables.specs.Past.{Past}
use Rattle.sig_tables.specs.Moves.{Moves}
use Rattle.sig_tables.specs.Decide.{colour_after}
use Rattle.sig_tables.specs.Seen.{frame_seen}
use Rattle.engine.specs.EngineStands.{EngineKeeps}
use Rattle.tick_context.specs.Moves.{AreMoves}
use Rattle.sig_tables.proofs.FilledTo.{FilledTo}
use Rattle.engine.proofs.Engine.colours.Given as goal

abbrev pub invariant-loop-p : goal.invariant-loop-p
invariant-loop-p g l = record {
  sixteen : length l.veh ≡ 16;
  filled : (past : Past) (w : Moves) → EngineKeeps g.M.Memory.remembers l.self past → AreMoves l.moves w
      → FilledTo Green l.veh l.p (λ p. colour_after w p past.tables past.moments (colour_of (frame_seen past) p));
}
