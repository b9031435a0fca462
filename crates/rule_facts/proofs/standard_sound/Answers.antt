use Rattle.sig_tables.specs.Standard.{std8, max8}
use Rattle.rule_facts.proofs.Facts.{sound}
use Rattle.rule_facts.proofs.standard_sound.Goals as goal

pub returns-clause-actuated : goal.returns-clause-actuated
returns-clause-actuated c = sound std8 c.standard_consistent.ensures.std8

pub returns-clause-recalled : goal.returns-clause-recalled
returns-clause-recalled c = sound max8 c.standard_consistent.ensures.max8
