use Rattle.band_report.proofs.OneAnswer.{one-text, no-fault-beside, one-fault}
use Rattle.band_report.proofs.file_laws.bytes_have_one_answer.Goals as goal

pub returns-clause-one : goal.returns-clause-one
returns-clause-one c = one-text

pub returns-clause-apart : goal.returns-clause-apart
returns-clause-apart c = no-fault-beside

pub returns-clause-one_fault : goal.returns-clause-one_fault
returns-clause-one_fault c = one-fault
