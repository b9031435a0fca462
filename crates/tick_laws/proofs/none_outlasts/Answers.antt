use Rattle.sig_tables.specs.Decide.{since_opening}
use Rattle.tick_laws.proofs.Within.{each-within}
use Rattle.tick_laws.proofs.Apart.{each-long}
use Rattle.tick_laws.proofs.none_outlasts.Goals as goal

pub returns-clause-within : goal.returns-clause-within
returns-clause-within c = λ h. each-within h.tables (since_opening h)

pub returns-clause-yellows : goal.returns-clause-yellows
returns-clause-yellows c = λ h l. each-long h.tables (since_opening h) l
