-- A message whose community and bindings are stored separately.
use Rattle.snmp_msg.specs.declared.message.Parts.{Parts}
use Rattle.snmp_msg.specs.declared.message.Message.{Message}

-- the message with these parts
abbrev pub message_in : Parts → Message
message_in parts = record {
  community = record { items = parts.community.now.items };
  pdu = parts.pdu;
  id = parts.id;
  status = parts.status;
  index = parts.index;
  binds = record { items = parts.binds.now };
}
