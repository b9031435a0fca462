-- How texts are joined, and the words of a message's fields.
use Rattle.std.specs.Prelude.{ℕ, List, [], ◌∷◌, ◌++◌, map, codes, decimal}
use Rattle.std.specs.Fmt.{signed_decimal}
use Rattle.hex.specs.Hex.{encode_lower}
use Rattle.snmp_msg.specs.declared.message.Pdu.{Pdu}
use Rattle.snmp_msg.specs.declared.message.Pdu.TheVariants.{Get, Next, Response, Set}
use Rattle.snmp_msg.specs.declared.message.Value.{Value}
use Rattle.snmp_msg.specs.declared.message.Value.TheVariants.{Int, Octets, Null, Name}
use Rattle.snmp_msg.specs.declared.message.Bind.{Bind}

-- the texts, each after the separator
abbrev pub each_behind : ℕ → List (List ℕ) → List ℕ
each_behind separator [] = []
each_behind separator (text ∷ texts) = separator ∷ (text ++ each_behind separator texts)

-- the texts, with the separator between two of them
abbrev pub joined : ℕ → List (List ℕ) → List ℕ
joined separator [] = []
joined separator (text ∷ texts) = text ++ each_behind separator texts

-- the word of a kind
abbrev pub pdu_word : Pdu → List ℕ
pdu_word Get = codes "get"
pdu_word Next = codes "next"
pdu_word Response = codes "response"
pdu_word Set = codes "set"

-- the arcs of a name, with a dot (46) between two of them
abbrev pub name_word : List ℕ → List ℕ
name_word arcs = joined 46 (map decimal arcs)

-- the kind of a value, and after a colon what it holds
abbrev pub value_word : Value → List ℕ
value_word (Int n) = codes "int:" ++ signed_decimal n
value_word (Octets octets) = codes "octets:" ++ encode_lower octets.items
value_word Null = codes "null"
value_word (Name name) = codes "name:" ++ name_word name.items

-- the name and the value of a binding, with an equals sign (61) between them
abbrev pub binding_word : Bind → List ℕ
binding_word bind = name_word bind.name.items ++ 61 ∷ value_word bind.value
