-- Items of octets: each message consists of octets.
use Rattle.std.specs.Prelude.{ℕ, List}
use Rattle.std.specs.List.{AllByRecursion}
use Rattle.snmp_msg.specs.Shortest.{AreOctets}
use Rattle.sig_types.specs.Items.{Item, InputTold, Came, Ticked}

-- a message consists of octets; every other item has none
abbrev pub IsOctetItem : Item → Type 0
IsOctetItem (InputTold field) = Unit {0}
IsOctetItem (Came octets) = AreOctets octets
IsOctetItem Ticked = Unit {0}

abbrev pub AreOctetItems : List Item → Type 0
AreOctetItems items = AllByRecursion IsOctetItem items

-- each of these texts consists of octets
abbrev pub AllOctets : List (List ℕ) → Type 0
AllOctets texts = AllByRecursion AreOctets texts

-- each text of each round consists of octets
abbrev pub EachOctets : List (List (List ℕ)) → Type 0
EachOctets rounds = AllByRecursion AllOctets rounds
