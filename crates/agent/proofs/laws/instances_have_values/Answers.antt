use Rattle.agent.proofs.Instances.{each_has_value, next_has_value, others_have_none}
use Rattle.agent.proofs.laws.instances_have_values.Goals as goal

pub returns-clause-each : goal.returns-clause-each
returns-clause-each c = each_has_value

pub returns-clause-next : goal.returns-clause-next
returns-clause-next c = next_has_value

pub returns-clause-others : goal.returns-clause-others
returns-clause-others c = others_have_none
