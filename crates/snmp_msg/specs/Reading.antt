-- What the reading of octets computes. The other clauses of `read` state that this agrees with the grammar.
use Rattle.std.specs.Prelude.{ℕ, ◌==◌, ◌&&◌, pos, List, [], ◌∷◌, length, Option, Some, None, nat_lt, nat_le, if◌then◌else◌}
use Rattle.std.specs.Ordering.{int_eq}
use Rattle.ber_code.specs.Reading.{◌>>=◌, tagged_at, integer_at, name_at, all_at}
use Rattle.snmp_msg.specs.declared.message.Pdu.{Pdu}
use Rattle.snmp_msg.specs.declared.message.Pdu.TheVariants.{Get, Next, Response, Set}
use Rattle.snmp_msg.specs.declared.message.Value.{Value}
use Rattle.snmp_msg.specs.declared.message.Value.TheVariants.{Int, Octets, Null, Name}
use Rattle.snmp_msg.specs.declared.message.Bind.{Bind}
use Rattle.snmp_msg.specs.declared.message.Message.{Message}
use Rattle.snmp_msg.specs.Messages.{tag_of}

-- an OCTET STRING of at most 64 octets, and the octets after it
unfoldable pub octets_at : List ℕ → Option (Value × List ℕ)
octets_at bytes = do
  c ← tagged_at 4 bytes
  if nat_lt 64 (length c.0) then None else Some (Octets (record { items = c.0 }), c.1)

-- a NULL and the octets after it
unfoldable pub null_at : List ℕ → Option (Value × List ℕ)
null_at bytes = do
  c ← tagged_at 5 bytes
  if length c.0 == 0 then Some (Null, c.1) else None

-- a value and the octets after it
unfoldable pub value_at : List ℕ → Option (Value × List ℕ)
value_at [] = None
value_at (tag ∷ rest) =
    if tag == 2 then (integer_at (tag ∷ rest) >>= λ n. Some (Int n.0, n.1))
    else if tag == 4 then octets_at (tag ∷ rest)
    else if tag == 5 then null_at (tag ∷ rest)
    else if tag == 6 then (name_at (tag ∷ rest) >>= λ n. Some (Name (record { items = n.0 }), n.1))
    else None

-- a binding and the octets after it
unfoldable pub binding_at : List ℕ → Option (Bind × List ℕ)
binding_at bytes = do
  c ← tagged_at 48 bytes
  name ← name_at c.0
  value ← value_at name.1
  if length value.1 == 0 then Some (record { name = record { items = name.0 }; value = value.0 }, c.1) else None

-- the kind of message with this tag
unfoldable pub kind_of : ℕ → Option Pdu
kind_of tag =
    if tag == 160 then Some Get
    else if tag == 161 then Some Next
    else if tag == 162 then Some Response
    else if tag == 163 then Some Set
    else None

-- the message with this community and a PDU of this kind, and the octets after it
unfoldable pub fields_at : List ℕ → Pdu → List ℕ → Option (Message × List ℕ)
fields_at community pdu bytes = do
  c ← tagged_at (tag_of pdu) bytes
  id ← integer_at c.0
  status ← integer_at id.1
  index ← integer_at status.1
  list ← tagged_at 48 index.1
  binds ← all_at binding_at 32 list.0
  if length list.1 == 0 then Some (record { community = record { items = community }; pdu = pdu; id = id.0; status = status.0; index = index.0; binds = record { items = binds } }, c.1) else None

-- the message with this community and a PDU of any kind, and the octets after it
unfoldable pub pdu_at : List ℕ → List ℕ → Option (Message × List ℕ)
pdu_at community [] = None
pdu_at community (tag ∷ rest) = do
  pdu ← kind_of tag
  fields_at community pdu (tag ∷ rest)

-- the message that these octets, which are under its tag, contain
unfoldable pub content_of : List ℕ → Option Message
content_of content = do
  version ← integer_at content
  community ← tagged_at 4 version.1
  m ← pdu_at community.0 community.1
  if int_eq version.0 (pos 0) && nat_le (length community.0) 32 && length m.1 == 0 then Some m.0 else None

-- a message and the octets after it
unfoldable pub framed_at : List ℕ → Option (Message × List ℕ)
framed_at bytes = do
  c ← tagged_at 48 bytes
  m ← content_of c.0
  Some (m, c.1)

-- the message, if the octets are one message of at most 1,472 octets and nothing else
unfoldable pub message_of : List ℕ → Option Message
message_of bytes = do
  m ← framed_at bytes
  if nat_le (length bytes) 1472 && length m.1 == 0 then Some m.0 else None
