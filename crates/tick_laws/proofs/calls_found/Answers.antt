use Rattle.sig_tables.specs.Decide.{since_opening}
use Rattle.tick_laws.proofs.Search.{vehicle-found}
use Rattle.tick_laws.proofs.calls_found.Goals as goal

pub returns : goal.returns
returns c = λ h p ph. vehicle-found h.tables (since_opening h) p ph
