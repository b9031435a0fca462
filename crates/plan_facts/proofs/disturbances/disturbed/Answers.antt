use Rattle.std.proofs.Common.{refl}
use Rattle.sig_tables.specs.Standard.{std8, standard}
use Rattle.plan_facts.proofs.disturbances.disturbed.Goals as goal

pub returns-clause-same_time : goal.returns-clause-same_time
unfolding std8 standard
returns-clause-same_time c = refl

pub returns-clause-other_time : goal.returns-clause-other_time
unfolding std8 standard
returns-clause-other_time c = refl

pub returns-clause-same_pattern : goal.returns-clause-same_pattern
unfolding std8 standard
returns-clause-same_pattern c = refl

pub returns-clause-other_pattern : goal.returns-clause-other_pattern
unfolding std8 standard
returns-clause-other_pattern c = refl

pub returns-clause-drift : goal.returns-clause-drift
unfolding std8 standard
returns-clause-drift c = refl

pub returns-clause-unknown_drift : goal.returns-clause-unknown_drift
unfolding std8 standard
returns-clause-unknown_drift c = refl
