use Rattle.sig_tables.specs.Decide.{since_opening}
use Rattle.tick_laws.proofs.Serving.{lawful-served}
use Rattle.tick_laws.proofs.forces_off_served.Goals as goal

pub returns : goal.returns
returns c = λ h l. lawful-served h.tables (since_opening h) l
