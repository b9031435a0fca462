-- What the calls that read the head of a message compute: the message without its community and its bindings.
use Rattle.std.specs.Prelude.{ℕ, ◌==◌, ◌&&◌, pos, is_some, List, [], ◌∷◌, length, Option, Some, None, nat_le, if◌then◌else◌}
use Rattle.std.specs.Ordering.{int_eq}
use Rattle.ber_code.specs.Reading.{◌>>=◌, tagged_at, integer_at, all_at}
use Rattle.snmp_msg.specs.declared.message.Pdu.{Pdu}
use Rattle.snmp_msg.specs.declared.message.Head.{Head}
use Rattle.snmp_msg.specs.declared.message.Message.{Message}
use Rattle.snmp_msg.specs.Messages.{tag_of}
use Rattle.snmp_msg.specs.Reading.{binding_at, kind_of}

-- the head of a message
abbrev pub head_of : Message → Head
head_of m = record { pdu = m.pdu; id = m.id; status = m.status; index = m.index }

-- the head of a PDU of this kind, and the octets after it
unfoldable pub head_fields_at : Pdu → List ℕ → Option (Head × List ℕ)
head_fields_at pdu bytes = do
  c ← tagged_at (tag_of pdu) bytes
  id ← integer_at c.0
  status ← integer_at id.1
  index ← integer_at status.1
  list ← tagged_at 48 index.1
  if is_some (all_at binding_at 32 list.0) && length list.1 == 0 then Some (record { pdu = pdu; id = id.0; status = status.0; index = index.0 }, c.1) else None

-- the head of a PDU of any kind, and the octets after it
unfoldable pub head_pdu_at : List ℕ → Option (Head × List ℕ)
head_pdu_at [] = None
head_pdu_at (tag ∷ rest) = do
  pdu ← kind_of tag
  head_fields_at pdu (tag ∷ rest)

-- the head of a message, by the octets under its tag
unfoldable pub head_content_of : List ℕ → Option Head
head_content_of content = do
  version ← integer_at content
  community ← tagged_at 4 version.1
  head ← head_pdu_at community.1
  if int_eq version.0 (pos 0) && nat_le (length community.0) 32 && length head.1 == 0 then Some head.0 else None

-- the head of a message, if the octets are this message and nothing else
unfoldable pub head_at : List ℕ → Option Head
head_at bytes = do
  c ← tagged_at 48 bytes
  head ← head_content_of c.0
  if nat_le (length bytes) 1472 && length c.1 == 0 then Some head else None
