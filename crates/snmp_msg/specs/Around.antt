-- The shortest text of a message, from the text of its bindings.
use Rattle.std.specs.Prelude.{ℕ, pos, List, ◌++◌}
use Rattle.ber_code.specs.Lengths.{tagged_text}
use Rattle.ber_code.specs.Integers.{integer_text}
use Rattle.snmp_msg.specs.declared.message.Message.{Message}
use Rattle.snmp_msg.specs.Messages.{tag_of}
use Rattle.snmp_msg.specs.Shortest.{ids_text}

-- the octets under the tag of a PDU, if this is the text of its bindings
unfoldable pub pdu_around : Message → List ℕ → List ℕ
pdu_around m list = ids_text m.id m.status m.index ++ tagged_text 48 list

-- the octets under the tag of a message, if this is the text of its bindings
unfoldable pub content_around : Message → List ℕ → List ℕ
content_around m list = integer_text (pos 0) ++ (tagged_text 4 m.community.items ++ tagged_text (tag_of m.pdu) (pdu_around m list))

-- the text of a message, if this is the text of its bindings; the message's own bindings aren't used
unfoldable pub message_around : Message → List ℕ → List ℕ
message_around m list = tagged_text 48 (content_around m list)
