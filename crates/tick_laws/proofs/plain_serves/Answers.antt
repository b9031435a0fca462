use Rattle.sig_tables.specs.Decide.{since_opening}
use Rattle.tick_laws.proofs.Ends.{each-green}
use Rattle.tick_laws.proofs.Signals.{each-on-green, each-signals}
use Rattle.tick_laws.proofs.SignalWithin.{each-walk-within}
use Rattle.tick_laws.proofs.Served.{plain-served}
use Rattle.tick_laws.proofs.plain_serves.Goals as goal

pub returns-clause-greens : goal.returns-clause-greens
returns-clause-greens c = λ h plain. each-green h.tables (since_opening h) (plain-served h.tables (since_opening h) plain)

pub returns-clause-on_green : goal.returns-clause-on_green
returns-clause-on_green c = λ h plain. each-on-green h.tables (since_opening h) (plain-served h.tables (since_opening h) plain)

pub returns-clause-signals : goal.returns-clause-signals
returns-clause-signals c = λ h plain. each-signals h.tables (since_opening h) (plain-served h.tables (since_opening h) plain)

pub returns-clause-walks : goal.returns-clause-walks
returns-clause-walks c = λ h plain. each-walk-within h.tables (since_opening h) (plain-served h.tables (since_opening h) plain)
