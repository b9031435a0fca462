use Rattle.field_file.proofs.LimitNames.{result-elsewhere}
use Rattle.field_file.proofs.limits_have_names.Goals as goal

pub returns : goal.returns
returns c = result-elsewhere
