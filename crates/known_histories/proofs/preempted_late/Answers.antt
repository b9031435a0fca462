use Rattle.std.proofs.Common.{refl}
use Rattle.sig_tables.specs.Standard.{std8, standard}
use Rattle.known_histories.proofs.preempted_late.Goals as goal

pub returns : goal.returns
unfolding std8 standard
returns c = refl
