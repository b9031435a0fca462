-- Messages whose parts consist of octets, and whose names have arcs of at most 32 bits.
use Rattle.std.specs.Prelude.{ℕ, ◌<◌, ◌≤◌, List, length}
use Rattle.std.specs.List.{AllByRecursion}
use Rattle.ber_code.specs.Names.{IsWritable}
use Rattle.snmp_msg.specs.declared.message.Value.{Value}
use Rattle.snmp_msg.specs.declared.message.Value.TheVariants.{Int, Octets, Null, Name}
use Rattle.snmp_msg.specs.declared.message.Bind.{Bind}
use Rattle.snmp_msg.specs.declared.message.Message.{Message}
use Rattle.snmp_msg.specs.Shortest.{AreOctets}

-- these are the octets of a message: 1 to 1,472
pub record IsFrame (text : List ℕ) : Type 0 where
  pub octets : AreOctets text
  pub some : 1 ≤ length text
  pub fits : length text ≤ 1472

-- the name has 2 to 32 arcs, each of at most 32 bits
pub record IsShortName (arcs : List ℕ) : Type 0 where
  pub writable : IsWritable arcs
  pub short : AllByRecursion (λ arc. arc < 4294967296) arcs

abbrev pub IsOctetValue : Value → Type 0
IsOctetValue (Int n) = Unit {0}
IsOctetValue (Octets octets) = AreOctets octets.items
IsOctetValue Null = Unit {0}
IsOctetValue (Name name) = IsShortName name.items

pub record IsOctetBind (bind : Bind) : Type 0 where
  pub name : IsShortName bind.name.items
  pub value : IsOctetValue bind.value

pub record IsOctetMessage (m : Message) : Type 0 where
  pub community : AreOctets m.community.items
  pub binds : AllByRecursion IsOctetBind m.binds.items
