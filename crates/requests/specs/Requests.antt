-- The requests that the master sends (RFC 1157, 4.1.2 and 4.1.5), as messages and as their octets.
use Rattle.std.specs.Prelude.{ℕ, ℤ, pos, ◌&&◌, Bool, true, false, List, Option, Some, None}
use Rattle.std.specs.Ordering.{int_eq}
use Rattle.std.specs.List.{filter_map}
use Rattle.arrayvec.specs.ArrayVec.{ArrayVec}
use Rattle.sig_tables.specs.Cells.{Content, Number, Octets}
use Rattle.snmp_msg.specs.declared.message.Pdu.{Pdu}
use Rattle.snmp_msg.specs.declared.message.Pdu.TheVariants.{Get, Next, Response, Set}
use Rattle.snmp_msg.specs.declared.message.Value.{Value}
use Rattle.snmp_msg.specs.declared.message.Value.TheVariants.{Int, Octets as OctetsValue, Null}
use Rattle.snmp_msg.specs.declared.message.Bind.{Bind}
use Rattle.snmp_msg.specs.declared.message.Message.{Message}
use Rattle.snmp_msg.specs.Shortest.{shortest}
use Rattle.snmp_msg.specs.Reading.{message_of}
use Rattle.oid_map.specs.declared.names.Name.{Name}
use Rattle.oid_map.specs.Names.{arcs_of}

-- a request with this community, id and bindings
abbrev pub request : Pdu → List ℕ → ℤ → List Bind → Message
request pdu community id binds = record {
  community = record { items = community };
  pdu = pdu;
  id = id;
  status = pos 0;
  index = pos 0;
  binds = record { items = binds };
}

-- the octets of a Set with these bindings
abbrev pub set_text : List ℕ → ℤ → List Bind → List ℕ
set_text community id binds = shortest (request Set community id binds)

-- the octets of a Get with these bindings
abbrev pub get_text : List ℕ → ℤ → List Bind → List ℕ
get_text community id binds = shortest (request Get community id binds)

-- a binding of an instance and a value
abbrev pub bound : Name → Value → Bind
bound name value = record { name = record { items = arcs_of name }; value = value }

-- a binding of an instance and a number
abbrev pub number_at : Name → ℕ → Bind
number_at name n = bound name (Int (pos n))

-- a binding that asks for an instance
abbrev pub asked_for : Name → Bind
asked_for name = bound name Null

-- the content of a cell as the value of a binding
abbrev pub value_of : Content → Value
value_of (Number n) = Int (pos n)
value_of (Octets octets) = OctetsValue (record { items = octets })

-- the message is a Response
abbrev pub is_response : Pdu → Bool
is_response Response = true
is_response Get = false
is_response Next = false
is_response Set = false

-- the message is a Response with this id
abbrev pub answers : ℤ → Message → Bool
answers id m = is_response m.pdu && int_eq m.id id

-- the Response reports no error: its status is 0
abbrev pub is_good : Message → Bool
is_good m = int_eq m.status (pos 0)

-- the messages among the octets that arrived, in order
abbrev pub messages : List (List ℕ) → List Message
messages arrived = filter_map message_of arrived

-- the status of a Response, if there is one
abbrev pub status_of : Option Message → Option ℤ
status_of None = None
status_of (Some m) = Some m.status

-- the octets of a message, if there is one
abbrev pub octets_in : Option (ArrayVec ℕ) → Option (List ℕ)
octets_in None = None
octets_in (Some frame) = Some frame.items
