use Rattle.std.proofs.Common.{refl}
use Rattle.sig_tables.specs.Standard.{std8, standard}
use Rattle.rule_facts.specs.Needed.{slow_clearance}
use Rattle.rule_facts.proofs.Late.{late-fails, slow-clearance-held}
use Rattle.rule_facts.proofs.broken_plans.local_zero_needs_least_service.Goals as goal

pub returns-clause-late : goal.returns-clause-late
unfolding slow_clearance std8 standard
returns-clause-late c = refl

pub returns-clause-fails : goal.returns-clause-fails
returns-clause-fails c = late-fails slow_clearance _ _ (returns-clause-late c) refl refl slow-clearance-held
