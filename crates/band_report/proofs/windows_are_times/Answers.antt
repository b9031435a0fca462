use Rattle.band_report.proofs.Windows.{window-is, is-window}
use Rattle.band_report.proofs.windows_are_times.Goals as goal

pub returns : goal.returns
returns c = λ t n r time some. (window-is t n r time some, is-window t n r time some)
