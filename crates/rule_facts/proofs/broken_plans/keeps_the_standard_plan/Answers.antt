use Rattle.std.proofs.Common.{refl}
use Rattle.sig_tables.specs.Standard.{std8, standard}
use Rattle.rule_facts.proofs.broken_plans.keeps_the_standard_plan.Goals as goal

pub returns-clause-turn : goal.returns-clause-turn
unfolding std8 standard
returns-clause-turn c = refl

pub returns-clause-side_street : goal.returns-clause-side_street
unfolding std8 standard
returns-clause-side_street c = refl
