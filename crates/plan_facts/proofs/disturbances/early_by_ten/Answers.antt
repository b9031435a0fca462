use Rattle.std.proofs.Common.{refl}
use Rattle.sig_tables.specs.Standard.{std8, standard}
use Rattle.plan_facts.proofs.disturbances.early_by_ten.Goals as goal

pub returns-clause-bounds : goal.returns-clause-bounds
unfolding std8 standard
returns-clause-bounds c = refl

pub returns-clause-zero : goal.returns-clause-zero
unfolding std8 standard
returns-clause-zero c = refl

pub returns-clause-no_sooner : goal.returns-clause-no_sooner
unfolding std8 standard
returns-clause-no_sooner c = refl

pub returns-clause-met : goal.returns-clause-met
unfolding std8 standard
returns-clause-met c = refl

pub returns-clause-not_met : goal.returns-clause-not_met
unfolding std8 standard
returns-clause-not_met c = refl
