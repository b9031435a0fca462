use Rattle.sig_tables.specs.Decide.{since_opening}
use Rattle.tick_laws.proofs.Search.{pedestrian-found}
use Rattle.tick_laws.proofs.pedestrian_calls_found.Goals as goal

pub returns : goal.returns
returns c = λ h p ph. pedestrian-found h.tables (since_opening h) p ph
