use Rattle.sig_tables.specs.Decide.{since_opening}
use Rattle.tick_laws.proofs.Signals.{each-walk-ends, each-signals}
use Rattle.tick_laws.proofs.Serving.{lawful-served}
use Rattle.tick_laws.proofs.signals_last.Goals as goal

pub returns-clause-walks : goal.returns-clause-walks
returns-clause-walks c = λ h. each-walk-ends h.tables (since_opening h)

pub returns-clause-signals : goal.returns-clause-signals
returns-clause-signals c = λ h l. each-signals h.tables (since_opening h) (lawful-served h.tables (since_opening h) l)
