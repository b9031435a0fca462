use Rattle.gen_arterial.proofs.Whole.{value-faultless, value-says}
use Rattle.gen_arterial.proofs.generated_is_read.Goals as goal

pub returns-clause-faultless : goal.returns-clause-faultless
returns-clause-faultless c = value-faultless

pub returns-clause-content : goal.returns-clause-content
returns-clause-content c = value-says
