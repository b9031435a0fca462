use Rattle.std.proofs.Common.{refl}
use Rattle.sig_tables.specs.Standard.{max8, standard}
use Rattle.known_histories.specs.Changes.{long_six}
use Rattle.known_histories.proofs.waits_at_the_barrier.Goals as goal

pub returns : goal.returns
unfolding max8 standard long_six
returns c = refl
