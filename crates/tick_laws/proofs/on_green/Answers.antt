use Rattle.sig_tables.specs.Decide.{since_opening}
use Rattle.tick_laws.proofs.Signals.{each-on-green}
use Rattle.tick_laws.proofs.Serving.{lawful-served}
use Rattle.tick_laws.proofs.on_green.Goals as goal

pub returns : goal.returns
returns c = λ h l. each-on-green h.tables (since_opening h) (lawful-served h.tables (since_opening h) l)
