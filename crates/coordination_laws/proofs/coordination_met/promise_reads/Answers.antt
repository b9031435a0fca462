use Rattle.coordination_laws.proofs.Reading.{green-read, zero-read, offset-read, near-read, near-zero}
use Rattle.coordination_laws.proofs.coordination_met.promise_reads.Goals as goal

pub returns-clause-green : goal.returns-clause-green
returns-clause-green c = green-read

pub returns-clause-zero : goal.returns-clause-zero
returns-clause-zero c = zero-read

pub returns-clause-offset : goal.returns-clause-offset
returns-clause-offset c = offset-read

pub returns-clause-near : goal.returns-clause-near
returns-clause-near c = near-read

pub returns-clause-near_zero : goal.returns-clause-near_zero
returns-clause-near_zero c = near-zero
