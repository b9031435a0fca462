-- The message of SNMP version 1 (RFC 1157, 4 and 4.1), without traps.
use Rattle.std.specs.Prelude.{ℕ, ◌≤◌, pos, List, ◌++◌, length}
use Rattle.ber_code.specs.Fields.{AreTexts}
use Rattle.ber_code.specs.Lengths.{IsTagged, IsOctets}
use Rattle.ber_code.specs.Integers.{IsInteger}
use Rattle.snmp_msg.specs.declared.message.Pdu.{Pdu}
use Rattle.snmp_msg.specs.declared.message.Pdu.TheVariants.{Get, Next, Response, Set}
use Rattle.snmp_msg.specs.declared.message.Message.{Message}
use Rattle.snmp_msg.specs.Values.{IsBinding}

-- the tag of a kind of message: A0 to A3 in hexadecimal digits
abbrev pub tag_of : Pdu → ℕ
tag_of Get = 160
tag_of Next = 161
tag_of Response = 162
tag_of Set = 163

-- the text is the PDU of the message: its id, status and index and the list of its bindings, under the tag of its
-- kind. The list has at most 32 bindings and is under tag 48
pub record IsPdu (text : List ℕ) (m : Message) : Type 0 where
  pub id : List ℕ
  pub status : List ℕ
  pub index : List ℕ
  pub bindings : List ℕ
  pub list : List ℕ
  pub ids : IsInteger id m.id
  pub statuses : IsInteger status m.status
  pub indices : IsInteger index m.index
  pub binds : AreTexts IsBinding bindings m.binds.items
  pub few : length m.binds.items ≤ 32
  pub lists : IsTagged 48 list bindings
  pub whole : IsTagged (tag_of m.pdu) text (id ++ (status ++ (index ++ list)))

-- the text is the message: version 0, a community of at most 32 octets, and a PDU, under tag 48
pub record IsFramed (text : List ℕ) (m : Message) : Type 0 where
  pub version : List ℕ
  pub community : List ℕ
  pub pdu : List ℕ
  pub versions : IsInteger version (pos 0)
  pub communities : IsOctets community m.community.items
  pub short : length m.community.items ≤ 32
  pub pdus : IsPdu pdu m
  pub whole : IsTagged 48 text (version ++ (community ++ pdu))

-- the text is the message, and has at most 1,472 octets
pub record IsMessage (text : List ℕ) (m : Message) : Type 0 where
  pub framed : IsFramed text m
  pub fits : length text ≤ 1472
