use Rattle.snmp_msg.proofs.MessageLaws.{messages_alone}
use Rattle.snmp_msg.proofs.laws.messages_stand_alone.Goals as goal

pub returns : goal.returns
returns c = messages_alone
