use Rattle.trace_laws.proofs.BandGreens.{open-green, band-green}
use Rattle.trace_laws.proofs.bands.bands_are_green.Goals as goal

pub returns-clause-times : goal.returns-clause-times
returns-clause-times c = λ text run. open-green c.lines_are_proper.ensures text run

pub returns-clause-bands : goal.returns-clause-bands
returns-clause-bands c = λ text run. band-green c.lines_are_proper.ensures text run
