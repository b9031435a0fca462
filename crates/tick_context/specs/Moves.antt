-- The moves of the rings at a tick, in code and in the definitions.
use Rattle.sig_types.specs.Phases.{is_in}
use Rattle.sig_tables.specs.Moves.{Moves}
use Rattle.sig_tables.specs.Layout.{Has}
use Rattle.ring_barrier.specs.declared.view.Changes.{Changes}

-- the changes are the moves, phase by phase
pub record AreMoves (changes : Changes) (moves : Moves) : Type 0 where
  pub ends : Has changes.ends (is_in moves.ends)
  pub begins : Has changes.begins (is_in moves.begins)
