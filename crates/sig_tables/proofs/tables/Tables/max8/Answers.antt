use Rattle.std.proofs.Common.{sym, subst}
use Rattle.sig_tables.specs.Putting.{EachFits}
use Rattle.sig_tables.specs.Standard.{max8}
use Rattle.sig_tables.proofs.StandardFits.{max8-fits}
use Rattle.sig_tables.proofs.tables.Tables.max8.Goals as goal

pub returns-clause-each_fits : goal.returns-clause-each_fits
unfolding max8
returns-clause-each_fits c = subst EachFits (sym c.with_options.ensures) max8-fits
