use Rattle.std.proofs.Common.{sym, subst}
use Rattle.sig_tables.specs.Putting.{EachFits}
use Rattle.sig_tables.specs.Standard.{std8}
use Rattle.sig_tables.proofs.StandardFits.{std8-fits}
use Rattle.sig_tables.proofs.tables.Tables.std8.Goals as goal

pub returns-clause-each_fits : goal.returns-clause-each_fits
unfolding std8
returns-clause-each_fits c = subst EachFits (sym c.with_options.ensures) std8-fits
