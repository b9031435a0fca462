use Rattle.sig_tables.specs.Decide.{since_opening}
use Rattle.tick_laws.proofs.SignalWithin.{each-walk-within, each-flash-within}
use Rattle.tick_laws.proofs.Serving.{lawful-served}
use Rattle.tick_laws.proofs.no_signal_outlasts.Goals as goal

pub returns-clause-walks : goal.returns-clause-walks
returns-clause-walks c = λ h l. each-walk-within h.tables (since_opening h) (lawful-served h.tables (since_opening h) l)

pub returns-clause-clearances : goal.returns-clause-clearances
returns-clause-clearances c = λ h. each-flash-within h.tables (since_opening h)
