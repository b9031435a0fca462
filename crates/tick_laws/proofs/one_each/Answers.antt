use Rattle.sig_tables.specs.Decide.{since_opening}
use Rattle.tick_laws.proofs.Apart.{holds}
use Rattle.tick_laws.proofs.one_each.Goals as goal

pub returns : goal.returns
returns c = λ h l. (holds h.tables (since_opening h) l).one
