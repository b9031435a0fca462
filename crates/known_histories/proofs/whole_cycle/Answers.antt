use Rattle.std.proofs.Common.{refl}
use Rattle.sig_tables.specs.Standard.{max8, standard}
use Rattle.known_histories.proofs.whole_cycle.Goals as goal

pub returns : goal.returns
unfolding max8 standard
returns c = refl
