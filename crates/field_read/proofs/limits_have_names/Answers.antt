use Rattle.field_read.proofs.LimitNames.{limit-elsewhere}
use Rattle.field_read.proofs.limits_have_names.Goals as goal

pub returns : goal.returns
returns c = limit-elsewhere
