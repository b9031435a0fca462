use Rattle.std.proofs.lemmas.Bool.{both_ways}
use Rattle.sig_tables.specs.View.{is_forced}
use Rattle.sig_tables.specs.Seen.{view_seen}
use Rattle.sig_tables.specs.Decide.{past_at, since_opening}
use Rattle.tick_laws.proofs.Signals.{ends-dont}
use Rattle.tick_laws.proofs.Serving.{lawful-forces}
use Rattle.tick_laws.proofs.ended_shows_dont.Goals as goal

pub returns-clause-unforced : goal.returns-clause-unforced
returns-clause-unforced c = λ h p ph g ne free.
    ends-dont (past_at h) p ph (λ forced. absurd (both_ways (is_forced (view_seen (past_at h)) p) free forced)) g ne

pub returns-clause-lawful : goal.returns-clause-lawful
returns-clause-lawful c = λ h p l ph g ne. ends-dont (past_at h) p ph (lawful-forces h.tables (since_opening h) l p) g ne
