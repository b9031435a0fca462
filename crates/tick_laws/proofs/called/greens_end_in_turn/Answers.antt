use Rattle.sig_tables.specs.Decide.{since_opening}
use Rattle.tick_laws.proofs.Barrier.{each-in-turn, each-for-other}
use Rattle.tick_laws.proofs.called.greens_end_in_turn.Goals as goal

pub returns-clause-turn : goal.returns-clause-turn
returns-clause-turn c = λ h l. each-in-turn h.tables (since_opening h) l

pub returns-clause-other : goal.returns-clause-other
returns-clause-other c = λ h l. each-for-other h.tables (since_opening h) l
