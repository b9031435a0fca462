use Rattle.tick_laws.proofs.Moving.{other-moves, held-moves}
use Rattle.tick_laws.proofs.coordinated_ticks.moves_as_planned.Goals as goal

pub returns-clause-others : goal.returns-clause-others
returns-clause-others c = other-moves

pub returns-clause-held : goal.returns-clause-held
returns-clause-held c = held-moves
