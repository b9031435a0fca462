use Rattle.std.proofs.Common.{refl}
use Rattle.sig_tables.specs.Standard.{std8, standard}
use Rattle.plan_facts.proofs.disturbances.one_tick_apart.Goals as goal

pub returns-clause-held : goal.returns-clause-held
unfolding std8 standard
returns-clause-held c = refl

pub returns-clause-met : goal.returns-clause-met
unfolding std8 standard
returns-clause-met c = refl

pub returns-clause-apart : goal.returns-clause-apart
unfolding std8 standard
returns-clause-apart c = refl

pub returns-clause-still : goal.returns-clause-still
unfolding std8 standard
returns-clause-still c = refl
