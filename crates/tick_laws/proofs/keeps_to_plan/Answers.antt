use Rattle.sig_tables.specs.Decide.{since_opening}
use Rattle.tick_laws.proofs.Serving.{lawful-step, lawful-coordinated}
use Rattle.tick_laws.proofs.keeps_to_plan.Goals as goal

pub returns-clause-frames : goal.returns-clause-frames
returns-clause-frames c = λ h l. lawful-coordinated h.tables (since_opening h) l

pub returns-clause-last : goal.returns-clause-last
returns-clause-last c = λ h n l step. lawful-step h.tables (since_opening h) n l step
