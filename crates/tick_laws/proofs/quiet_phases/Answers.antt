use Rattle.sig_tables.specs.Decide.{since_opening}
use Rattle.tick_laws.proofs.Apart.{holds}
use Rattle.tick_laws.proofs.Quiet.{each-quiet}
use Rattle.tick_laws.proofs.quiet_phases.Goals as goal

pub returns-clause-enabled : goal.returns-clause-enabled
returns-clause-enabled c = λ h l. (holds h.tables (since_opening h) l).enabled

pub returns-clause-signals : goal.returns-clause-signals
returns-clause-signals c = λ h l. each-quiet h.tables (since_opening h) l
