use Rattle.sig_tables.specs.Decide.{since_opening}
use Rattle.tick_laws.proofs.Ends.{each-clearance, each-green}
use Rattle.tick_laws.proofs.Serving.{lawful-served}
use Rattle.tick_laws.proofs.intervals_last.Goals as goal

pub returns-clause-clearances : goal.returns-clause-clearances
returns-clause-clearances c = λ h. each-clearance h.tables (since_opening h)

pub returns-clause-greens : goal.returns-clause-greens
returns-clause-greens c = λ h l. each-green h.tables (since_opening h) (lawful-served h.tables (since_opening h) l)
