use Rattle.sig_tables.specs.Decide.{since_opening}
use Rattle.tick_laws.proofs.Search.{detector-found}
use Rattle.tick_laws.proofs.detectors_found.Goals as goal

pub returns : goal.returns
returns c = λ h p ph. detector-found h.tables (since_opening h) p ph
