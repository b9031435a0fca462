-- The values of a binding, in the forms that this profile accepts (RFC 1155, 3.2.1 and 3.2.2), and the binding (RFC
-- 1157, 4.1.6).
use Rattle.std.specs.Prelude.{ℕ, ◌≤◌, List, [], ◌++◌, length}
use Rattle.ber_code.specs.Lengths.{IsTagged, IsOctets}
use Rattle.ber_code.specs.Integers.{IsInteger}
use Rattle.ber_code.specs.Names.{IsName}
use Rattle.snmp_msg.specs.declared.message.Value.{Value}
use Rattle.snmp_msg.specs.declared.message.Value.TheVariants.{Int, Octets, Null, Name}
use Rattle.snmp_msg.specs.declared.message.Bind.{Bind}

-- a NULL (X.690, 8.8) is tag 5 without content
abbrev pub IsNull : List ℕ → Type 0
IsNull text = IsTagged 5 text []

-- a value is an INTEGER, an OCTET STRING of at most 64 octets, a NULL or an OBJECT IDENTIFIER
abbrev pub IsValue : List ℕ → Value → Type 0
IsValue text (Int n) = IsInteger text n
IsValue text (Octets octets) = IsOctets text octets.items × (length octets.items ≤ 64)
IsValue text Null = IsNull text
IsValue text (Name name) = IsName text name.items

-- a binding is a name and a value under tag 48
pub record IsBinding (text : List ℕ) (bind : Bind) : Type 0 where
  pub name : List ℕ
  pub value : List ℕ
  pub names : IsName name bind.name.items
  pub values : IsValue value bind.value
  pub whole : IsTagged 48 text (name ++ value)
