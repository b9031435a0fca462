use Rattle.std.proofs.Common.{sym, ◌∙◌}
use Rattle.snmp_msg.proofs.HeadLaws.{message_head}
use Rattle.snmp_msg.proofs.heads.read_head.Goals as goal

pub returns : goal.returns
returns c = c.head_in.ensures ∙ sym (message_head c.args.bytes.now)
