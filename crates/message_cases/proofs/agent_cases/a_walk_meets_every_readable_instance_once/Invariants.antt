use Rattle.snmp_msg.specs.Shortest.{IsWritableMessage}
use Rattle.message_cases.proofs.agent_cases.a_walk_meets_every_readable_instance_once.Given as goal

abbrev pub invariant-loop-visited : goal.invariant-loop-visited
invariant-loop-visited g l = IsWritableMessage l.request
