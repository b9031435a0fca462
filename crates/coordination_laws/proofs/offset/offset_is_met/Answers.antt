use Rattle.coordination_laws.proofs.Onto.{corrects, comes-onto}
use Rattle.coordination_laws.proofs.Sooner.{not-sooner, not-sooner-adding}
use Rattle.coordination_laws.proofs.offset.offset_is_met.Goals as goal

pub returns-clause-each_cycle : goal.returns-clause-each_cycle
returns-clause-each_cycle c = corrects

pub returns-clause-reached : goal.returns-clause-reached
returns-clause-reached c = comes-onto

pub returns-clause-not_sooner : goal.returns-clause-not_sooner
returns-clause-not_sooner c = not-sooner

pub returns-clause-not_sooner_adding : goal.returns-clause-not_sooner_adding
returns-clause-not_sooner_adding c = not-sooner-adding
