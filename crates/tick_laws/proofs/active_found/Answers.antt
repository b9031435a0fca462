use Rattle.sig_tables.specs.Decide.{past_at, since_opening}
use Rattle.tick_laws.proofs.Search.{active-found}
use Rattle.tick_laws.proofs.active_found.Goals as goal

pub returns : goal.returns
returns c = λ h p ph. active-found (past_at h).tables h.tables (since_opening h) p ph
