use Rattle.std.proofs.Common.{refl}
use Rattle.sig_tables.specs.Standard.{std8, standard}
use Rattle.rule_facts.specs.BrokenPlans.{long_revert}
use Rattle.rule_facts.proofs.Late.{late-fails, long-revert-held}
use Rattle.rule_facts.proofs.broken_plans.local_zero_needs_red_revert.Goals as goal

pub returns-clause-broken : goal.returns-clause-broken
unfolding long_revert std8 standard
returns-clause-broken c = refl

pub returns-clause-late : goal.returns-clause-late
unfolding long_revert std8 standard
returns-clause-late c = refl

pub returns-clause-fails : goal.returns-clause-fails
returns-clause-fails c = late-fails long_revert _ _ (returns-clause-late c) refl refl long-revert-held
