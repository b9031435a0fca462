use Rattle.stage_txn.proofs.InRange.{staged-fits}
use Rattle.stage_txn.proofs.laws.staged_tables_in_range.Goals as goal

pub returns : goal.returns
returns c = λ calls begun. staged-fits calls begun
