use Rattle.sig_tables.specs.Putting.{EachFits}
use Rattle.sig_tables.proofs.Fitting.{cells-fit}
use Rattle.sig_tables.proofs.StandardFits.{std8-fits, max8-fits}
use Rattle.scenario_data.specs.declared.scenario.Base.{Base}
use Rattle.scenario_data.specs.declared.scenario.Base.TheVariants.{Std8, Max8}
use Rattle.scenario_data.specs.Opening.{base_tables}
use Rattle.scenario_data.proofs.opening.opening_tables_in_range.Goals as goal

base-fits : (base : Base) → EachFits (base_tables base)
base-fits Std8 = std8-fits
base-fits Max8 = max8-fits

pub returns : goal.returns
returns c = λ cabinet. cells-fit (base_tables cabinet.base) cabinet.cells (base-fits cabinet.base)
