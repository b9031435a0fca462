use Rattle.band_report.proofs.LimitNames.{limit-elsewhere}
use Rattle.band_report.proofs.file_laws.limits_have_names.Goals as goal

pub returns : goal.returns
returns c = limit-elsewhere
