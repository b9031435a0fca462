use Rattle.field_file.proofs.OneAnswer.{one-result, no-fault-beside, one-fault}
use Rattle.field_file.proofs.bytes_have_one_answer.Goals as goal

pub returns-clause-one : goal.returns-clause-one
returns-clause-one c = one-result

pub returns-clause-apart : goal.returns-clause-apart
returns-clause-apart c = no-fault-beside

pub returns-clause-one_fault : goal.returns-clause-one_fault
returns-clause-one_fault c = one-fault
