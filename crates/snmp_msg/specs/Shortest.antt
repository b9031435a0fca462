-- The shortest text of a message: each length and each INTEGER has as few octets as possible.
use Rattle.std.specs.Prelude.{ℕ, ◌<◌, ℤ, pos, List, [], ◌++◌, All}
use Rattle.std.specs.List.{flat_map, AllByRecursion}
use Rattle.ber_code.specs.Lengths.{tagged_text}
use Rattle.ber_code.specs.Integers.{integer_text}
use Rattle.ber_code.specs.Names.{name_text, IsWritable}
use Rattle.snmp_msg.specs.declared.message.Value.{Value}
use Rattle.snmp_msg.specs.declared.message.Value.TheVariants.{Int, Octets, Null, Name}
use Rattle.snmp_msg.specs.declared.message.Bind.{Bind}
use Rattle.snmp_msg.specs.declared.message.Message.{Message}
use Rattle.snmp_msg.specs.Messages.{tag_of}

-- the shortest text of a value
unfoldable pub value_text : Value → List ℕ
value_text (Int n) = integer_text n
value_text (Octets octets) = tagged_text 4 octets.items
value_text Null = tagged_text 5 []
value_text (Name name) = name_text name.items

-- the octets under the tag of a binding
abbrev pub binding_content : Bind → List ℕ
binding_content bind = name_text bind.name.items ++ value_text bind.value

-- the shortest text of a binding
unfoldable pub binding_text : Bind → List ℕ
binding_text bind = tagged_text 48 (binding_content bind)

-- the text of id, status and index
unfoldable pub ids_text : ℤ → ℤ → ℤ → List ℕ
ids_text id status index = integer_text id ++ (integer_text status ++ integer_text index)

-- the octets under the tag of a PDU
unfoldable pub pdu_content : Message → List ℕ
pdu_content m = ids_text m.id m.status m.index ++ tagged_text 48 (flat_map binding_text m.binds.items)

-- the octets under the tag of a message
unfoldable pub message_content : Message → List ℕ
message_content m = integer_text (pos 0) ++ (tagged_text 4 m.community.items ++ tagged_text (tag_of m.pdu) (pdu_content m))

-- the shortest text of a message
unfoldable pub shortest : Message → List ℕ
shortest m = tagged_text 48 (message_content m)

-- the value can be written: if it is a name, its arcs can be written
abbrev pub IsWritableValue : Value → Type 0
IsWritableValue (Int n) = Unit {0}
IsWritableValue (Octets octets) = Unit {0}
IsWritableValue Null = Unit {0}
IsWritableValue (Name name) = IsWritable name.items

-- the name and the value of the binding can be written
pub record IsWritableBind (bind : Bind) : Type 0 where
  pub name : IsWritable bind.name.items
  pub value : IsWritableValue bind.value

-- each binding of the message can be written
abbrev pub IsWritableMessage : Message → Type 0
IsWritableMessage m = All IsWritableBind m.binds.items

-- each number is an octet
abbrev pub AreOctets : List ℕ → Type 0
AreOctets octets = AllByRecursion (λ octet. octet < 256) octets
