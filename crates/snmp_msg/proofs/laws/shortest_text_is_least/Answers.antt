use Rattle.snmp_msg.proofs.Least.{message_least}
use Rattle.snmp_msg.proofs.laws.shortest_text_is_least.Goals as goal

pub returns : goal.returns
returns c = message_least
