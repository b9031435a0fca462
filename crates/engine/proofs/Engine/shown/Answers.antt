use Rattle.sig_tables.specs.Decide.{past_at}
use Rattle.engine.proofs.Engine.shown.Goals as goal

pub returns : goal.returns
returns g c = record { shown = λ h k. c.shown.ensures.shown (past_at h) k.context }
