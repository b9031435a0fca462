-- A message that is read from octets is of octets, and its numbers take 32 bits.
use Rattle.std.proofs.Common.{◌≡◌, ℕ, ◌-◌, ◌^◌, ◌<◌, ◌≤◌, List, [], ◌∷◌, ◌++◌, length, refl, sym, subst, arith, nat_lt, Bool, true, false, if◌then◌else◌}
use Rattle.std.specs.Prelude.{ℤ, pos, negsuc, FitsSigned}
use Rattle.std.specs.Int.{w32}
use Rattle.std.specs.List.{AllByRecursion}
use Rattle.std.proofs.lemmas.Bool.{ltb-true, ltb-false}
use Rattle.ber_code.specs.Fields.{AreTexts}
use Rattle.ber_code.specs.Lengths.{IsTagged, big_endian}
use Rattle.ber_code.specs.Integers.{IsInteger, twos_complement}
use Rattle.ber_code.specs.Names.{IsArc, IsName}
use Rattle.snmp_msg.specs.declared.message.Value.{Value}
use Rattle.snmp_msg.specs.declared.message.Value.TheVariants.{Int, Octets, Null, Name}
use Rattle.snmp_msg.specs.declared.message.Bind.{Bind}
use Rattle.snmp_msg.specs.declared.message.Message.{Message}
use Rattle.snmp_msg.specs.Messages.{IsMessage}
use Rattle.snmp_msg.specs.Values.{IsValue, IsBinding}
use Rattle.snmp_msg.specs.Shortest.{AreOctets}
use Rattle.trace_laws.specs.Messages.{IsShortName, IsOctetValue, IsOctetBind, IsOctetMessage}

front : (xs ys : List ℕ) → AreOctets (xs ++ ys) → AreOctets xs
front [] ys all = tt
front (x ∷ xs) ys all = (all.0, front xs ys all.1)

back : (xs ys : List ℕ) → AreOctets (xs ++ ys) → AreOctets ys
back [] ys all = all
back (x ∷ xs) ys all = back xs ys all.1

-- octets under a tag
inner : (tag : ℕ) (text content : List ℕ) → AreOctets text → IsTagged tag text content → AreOctets content
inner tag text content all is = back is.0 content (subst AreOctets is.2 all).1

-- ---- numbers

signed-fits : (octets : List ℕ) → AreOctets octets → 1 ≤ length octets → length octets ≤ 4 → FitsSigned w32 (twos_complement octets)
signed-fits [] all some few = absurd (omega (arith, some))
signed-fits (a ∷ []) all some few = split (nat_lt a 128) refl
  where
    split : (b : Bool) → nat_lt a 128 ≡ b → FitsSigned w32 (if b then pos (big_endian (a ∷ [])) else negsuc (256 ^ length (a ∷ []) - 1 - big_endian (a ∷ [])))
    split true e = omega (arith, all.0)
    split false e = omega (arith, all.0)
signed-fits (a ∷ b ∷ []) all some few = split (nat_lt a 128) refl
  where
    split : (t : Bool) → nat_lt a 128 ≡ t → FitsSigned w32 (if t then pos (big_endian (a ∷ b ∷ [])) else negsuc (256 ^ length (a ∷ b ∷ []) - 1 - big_endian (a ∷ b ∷ [])))
    split true e = omega (arith, all.0, all.1.0)
    split false e = omega (arith, all.0, all.1.0)
signed-fits (a ∷ b ∷ c ∷ []) all some few = split (nat_lt a 128) refl
  where
    split : (t : Bool) → nat_lt a 128 ≡ t → FitsSigned w32 (if t then pos (big_endian (a ∷ b ∷ c ∷ [])) else negsuc (256 ^ length (a ∷ b ∷ c ∷ []) - 1 - big_endian (a ∷ b ∷ c ∷ [])))
    split true e = omega (arith, all.0, all.1.0, all.1.1.0)
    split false e = omega (arith, all.0, all.1.0, all.1.1.0)
signed-fits (a ∷ b ∷ c ∷ d ∷ []) all some few = split (nat_lt a 128) refl
  where
    split : (t : Bool) → nat_lt a 128 ≡ t → FitsSigned w32 (if t then pos (big_endian (a ∷ b ∷ c ∷ d ∷ [])) else negsuc (256 ^ length (a ∷ b ∷ c ∷ d ∷ []) - 1 - big_endian (a ∷ b ∷ c ∷ d ∷ [])))
    split true e = omega (arith, ltb-true a 128 e, all.1.0, all.1.1.0, all.1.1.1.0)
    split false e = omega (arith, ltb-false a 128 e, all.0, all.1.0, all.1.1.0, all.1.1.1.0)
signed-fits (a ∷ b ∷ c ∷ d ∷ x ∷ octets) all some few = absurd (omega (arith, few))

pub number-fits : (text : List ℕ) (n : ℤ) → AreOctets text → IsInteger text n → FitsSigned w32 n
number-fits text n all (octets, contents, tagged) =
    subst (FitsSigned w32) (sym contents.number)
    (signed-fits octets (inner 2 text octets all tagged) contents.some contents.few)

-- ---- names, values, bindings

arcs-short : (octets arcs : List ℕ) → AreTexts IsArc octets arcs → AllByRecursion (λ arc. arc < 4294967296) arcs
arcs-short octets [] are = tt
arcs-short octets (arc ∷ arcs) are = (are.2.fits, arcs-short are.1 arcs are.3)

name-short : (text arcs : List ℕ) → IsName text arcs → IsShortName arcs
name-short text [] (octets, contents, tagged) = absurd contents
name-short text (first ∷ []) (octets, contents, tagged) = absurd contents
name-short text (first ∷ second ∷ later) (octets, contents, tagged) =
    let w = contents.0 in
    let root : first ≤ 2 = w.root in
    let low : second < 4294967296 = grind (arith, root, w.under_root, w.under_last) in
    record {
      writable = (w, contents.1);
      short = (omega (arith, root), (low, arcs-short contents.2 later contents.4));
    }

value-read : (text : List ℕ) (v : Value) → AreOctets text → IsValue text v → IsOctetValue v
value-read text (Int n) all is = tt
value-read text (Octets octets) all is = inner 4 text octets.items all is.0
value-read text Null all is = tt
value-read text (Name name) all is = name-short text name.items is

binding-read : (text : List ℕ) (bind : Bind) → AreOctets text → IsBinding text bind → IsOctetBind bind
binding-read text bind all is =
    let content : AreOctets (is.name ++ is.value) = inner 48 text (is.name ++ is.value) all is.whole in
    record {
      name = name-short is.name bind.name.items is.names;
      value = value-read is.value bind.value (back is.name is.value content) is.values;
    }

bindings-read : (text : List ℕ) (binds : List Bind) → AreOctets text → AreTexts IsBinding text binds → AllByRecursion IsOctetBind binds
bindings-read text [] all are = tt
bindings-read text (bind ∷ binds) all are =
    let parts : AreOctets (are.0 ++ are.1) = subst AreOctets are.4 all in
    (binding-read are.0 bind (front are.0 are.1 parts) are.2, bindings-read are.1 binds (back are.0 are.1 parts) are.3)

-- ---- the message

-- the numbers of a message take 32 bits
pub record HasSmallNumbers (m : Message) : Type 0 where
  pub status : FitsSigned w32 m.status
  pub index : FitsSigned w32 m.index

pub message-read : (text : List ℕ) (m : Message) → AreOctets text → IsMessage text m → IsOctetMessage m × HasSmallNumbers m
message-read text m all is =
    let f = is.framed in
    let p = f.pdus in
    let whole : AreOctets (f.version ++ (f.community ++ f.pdu)) = inner 48 text (f.version ++ (f.community ++ f.pdu)) all f.whole in
    let named : AreOctets (f.community ++ f.pdu) = back f.version (f.community ++ f.pdu) whole in
    let fields : AreOctets (p.id ++ (p.status ++ (p.index ++ p.list))) =
    inner _ f.pdu (p.id ++ (p.status ++ (p.index ++ p.list))) (back f.community f.pdu named) p.whole in
    let stated : AreOctets (p.status ++ (p.index ++ p.list)) = back p.id (p.status ++ (p.index ++ p.list)) fields in
    let indexed : AreOctets (p.index ++ p.list) = back p.status (p.index ++ p.list) stated in (
      record {
        community = inner 4 f.community m.community.items (front f.community f.pdu named) f.communities;
        binds = bindings-read p.bindings m.binds.items (inner 48 p.list p.bindings (back p.index p.list indexed) p.lists) p.binds;
      },
      record {
        status = number-fits p.status m.status (front p.status (p.index ++ p.list) stated) p.statuses;
        index = number-fits p.index m.index (front p.index p.list indexed) p.indices;
      },
    )
