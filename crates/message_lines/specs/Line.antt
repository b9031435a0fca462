-- The line that answers a line of hexadecimal digits.
use Rattle.std.specs.Prelude.{◌≡◌, ℕ, List, ◌∷◌, map, codes, Ok}
use Rattle.std.specs.Fmt.{signed_decimal}
use Rattle.hex.specs.Hex.{encode_lower, decode_of}
use Rattle.snmp_msg.specs.declared.message.Message.{Message}
use Rattle.snmp_msg.specs.Messages.{IsMessage}
use Rattle.snmp_msg.specs.Shortest.{shortest}
use Rattle.message_lines.specs.Words.{joined, pdu_word, binding_word}

-- the digits are those of a text of this message
abbrev pub Write : List ℕ → Message → Type 0
Write digits m = (octets : List ℕ) × (decode_of digits ≡ Ok octets) × IsMessage octets m

-- the words of a message's fields: its community, its kind, its id, status and index, and its bindings
abbrev pub field_words : Message → List (List ℕ)
field_words m =
    encode_lower m.community.items ∷ pdu_word m.pdu
    ∷ signed_decimal m.id ∷ signed_decimal m.status ∷ signed_decimal m.index ∷ map binding_word m.binds.items

-- the line of a message: its shortest text and its fields, with one space (32) between two words
unfoldable pub message_line : Message → List ℕ
message_line m = joined 32 (encode_lower (shortest m) ∷ field_words m)

-- the line for digits that aren't a message
abbrev pub none_line : List ℕ
none_line = codes "none"
