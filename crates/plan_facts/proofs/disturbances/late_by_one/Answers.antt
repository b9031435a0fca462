use Rattle.std.proofs.Common.{refl}
use Rattle.sig_tables.specs.Standard.{std8, standard}
use Rattle.plan_facts.proofs.disturbances.late_by_one.Goals as goal

pub returns-clause-bounds : goal.returns-clause-bounds
unfolding std8 standard
returns-clause-bounds c = refl

pub returns-clause-meets : goal.returns-clause-meets
unfolding std8 standard
returns-clause-meets c = refl
