-- The shortest text of a message of octets is octets, where it fits into a frame.
use Rattle.std.proofs.Common.{◌≡◌, ℕ, ◌/◌, ◌<◌, ◌≤◌, List, [], ◌∷◌, ◌++◌, length, refl, arith, nat_lt, Bool, true, false, if◌then◌else◌}
use Rattle.std.specs.Prelude.{ℤ, pos}
use Rattle.std.specs.List.{flat_map, AllByRecursion}
use Rattle.std.proofs.lemmas.Bool.{ltb-true, ltb-false}
use Rattle.std.proofs.lemmas.List.{length-append}
use Rattle.ber_code.specs.Lengths.{length_text, tagged_text}
use Rattle.ber_code.specs.Integers.{integer_octets, integer_text, unsigned_part}
use Rattle.ber_code.specs.Names.{arc_text, name_octets, name_text}
use Rattle.snmp_msg.specs.declared.message.Pdu.{Pdu}
use Rattle.snmp_msg.specs.declared.message.Pdu.TheVariants.{Get, Next, Response, Set}
use Rattle.snmp_msg.specs.declared.message.Value.{Value}
use Rattle.snmp_msg.specs.declared.message.Value.TheVariants.{Int, Octets, Null, Name}
use Rattle.snmp_msg.specs.declared.message.Bind.{Bind}
use Rattle.snmp_msg.specs.declared.message.Message.{Message}
use Rattle.snmp_msg.specs.Messages.{tag_of}
use Rattle.snmp_msg.specs.Shortest.{value_text, binding_text, ids_text, pdu_content, message_content, shortest, AreOctets}
use Rattle.trace_laws.specs.Messages.{IsFrame, IsShortName, IsOctetValue, IsOctetBind, IsOctetMessage}

pub both : (xs ys : List ℕ) → AreOctets xs → AreOctets ys → AreOctets (xs ++ ys)
both [] ys a b = b
both (x ∷ xs) ys a b = (a.0, both xs ys a.1 b)

either-octets : (b : Bool) (xs ys : List ℕ) → (b ≡ true → AreOctets xs) → (b ≡ false → AreOctets ys) → AreOctets (if b then xs else ys)
either-octets true xs ys p q = p refl
either-octets false xs ys p q = q refl

length-octets : (n : ℕ) → n ≤ 1472 → AreOctets (length_text n)
unfolding length_text
length-octets n few =
    either-octets (nat_lt n 128) _ _ (λ e. (omega (arith, ltb-true n 128 e), tt))
    (λ a. either-octets (nat_lt n 256) _ _ (λ e. (omega arith, (omega (arith, ltb-true n 256 e), tt)))
    (λ b. either-octets (nat_lt n 65536) _ _ (λ e. (omega arith, (omega (arith, few), (omega arith, tt))))
    (λ c. absurd (omega (arith, few, ltb-false n 65536 c)))))

inner-fits : (tag : ℕ) (content : List ℕ) → length (tagged_text tag content) ≤ 1472 → length content ≤ 1472
inner-fits tag content fits = omega (arith, fits, length-append (length_text (length content)) content)

tagged-octets : (tag : ℕ) (content : List ℕ) → tag < 256 → length (tagged_text tag content) ≤ 1472 → AreOctets content → AreOctets (tagged_text tag content)
tagged-octets tag content low fits all =
    (low, both (length_text (length content)) content (length-octets (length content) (inner-fits tag content fits)) all)

low-octets : (n : ℤ) → AreOctets (integer_octets n)
unfolding integer_octets
low-octets n =
    either-octets (nat_lt (unsigned_part n) 128) _ _ (λ e. (omega arith, tt))
    (λ a. either-octets (nat_lt (unsigned_part n) 32768) _ _ (λ e. (omega arith, (omega arith, tt)))
    (λ b. either-octets (nat_lt (unsigned_part n) 8388608) _ _ (λ e. (omega arith, (omega arith, (omega arith, tt))))
    (λ c. (omega arith, (omega arith, (omega arith, (omega arith, tt)))))))

integer-octets : (n : ℤ) → length (integer_text n) ≤ 1472 → AreOctets (integer_text n)
unfolding integer_text
integer-octets n fits = tagged-octets 2 (integer_octets n) (omega arith) fits (low-octets n)

arc-octets : (n : ℕ) → n < 4294967296 → AreOctets (arc_text n)
unfolding arc_text
arc-octets n low =
    let n1 = n / 128 in
    let n2 = n1 / 128 in
    let n3 = n2 / 128 in
    either-octets (nat_lt n 128) _ _ (λ e. (omega (arith, ltb-true n 128 e), tt))
    (λ a. either-octets (nat_lt n1 128) _ _ (λ e. (omega (arith, ltb-true n1 128 e), (omega arith, tt)))
    (λ b. either-octets (nat_lt n2 128) _ _ (λ e. (omega (arith, ltb-true n2 128 e), (omega arith, (omega arith, tt))))
    (λ c. either-octets (nat_lt n3 128) _ _ (λ e. (omega (arith, ltb-true n3 128 e), (omega arith, (omega arith, (omega arith, tt)))))
    (λ d. (omega (arith, low), (omega arith, (omega arith, (omega arith, (omega arith, tt)))))))))

arcs-octets : (arcs : List ℕ) → AllByRecursion (λ arc. arc < 4294967296) arcs → AreOctets (flat_map arc_text arcs)
arcs-octets [] all = tt
arcs-octets (n ∷ arcs) all = both (arc_text n) (flat_map arc_text arcs) (arc-octets n all.0) (arcs-octets arcs all.1)

name-contents : (arcs : List ℕ) → IsShortName arcs → AreOctets (name_octets arcs)
name-contents [] is = tt
name-contents (first ∷ []) is = tt
name-contents (first ∷ second ∷ later) is =
    let w = is.writable.0 in
    let root : first ≤ 2 = w.root in
    (grind (arith, root, w.under_root, w.under_last), arcs-octets later is.short.1.1)

name-octets : (arcs : List ℕ) → IsShortName arcs → length (name_text arcs) ≤ 1472 → AreOctets (name_text arcs)
unfolding name_text
name-octets arcs is fits = tagged-octets 6 (name_octets arcs) (omega arith) fits (name-contents arcs is)

value-octets : (v : Value) → IsOctetValue v → length (value_text v) ≤ 1472 → AreOctets (value_text v)
unfolding value_text
value-octets (Int n) is fits = integer-octets n fits
value-octets (Octets octets) is fits = tagged-octets 4 octets.items (omega arith) fits is
value-octets Null is fits = tagged-octets 5 [] (omega arith) fits tt
value-octets (Name name) is fits = name-octets name.items is fits

-- what fits with others fits by itself
front-fits : (xs ys : List ℕ) → length (xs ++ ys) ≤ 1472 → length xs ≤ 1472
front-fits xs ys fits = omega (arith, fits, length-append xs ys)

back-fits : (xs ys : List ℕ) → length (xs ++ ys) ≤ 1472 → length ys ≤ 1472
back-fits xs ys fits = omega (arith, fits, length-append xs ys)

binding-octets : (bind : Bind) → IsOctetBind bind → length (binding_text bind) ≤ 1472 → AreOctets (binding_text bind)
unfolding binding_text
binding-octets bind is fits =
    let name : List ℕ = name_text bind.name.items in
    let value : List ℕ = value_text bind.value in
    let inner : length (name ++ value) ≤ 1472 = inner-fits 48 (name ++ value) fits in
    tagged-octets 48 (name ++ value) (omega arith) fits
    (both name value (name-octets bind.name.items is.name (front-fits name value inner)) (value-octets bind.value is.value (back-fits name value inner)))

bindings-octets : (binds : List Bind) → AllByRecursion IsOctetBind binds → length (flat_map binding_text binds) ≤ 1472 → AreOctets (flat_map binding_text binds)
bindings-octets [] all fits = tt
bindings-octets (bind ∷ binds) all fits =
    let rest : List ℕ = flat_map binding_text binds in
    both (binding_text bind) rest (binding-octets bind all.0 (front-fits (binding_text bind) rest fits))
    (bindings-octets binds all.1 (back-fits (binding_text bind) rest fits))

tag-low : (pdu : Pdu) → tag_of pdu < 256
tag-low Get = omega arith
tag-low Next = omega arith
tag-low Response = omega arith
tag-low Set = omega arith

ids-octets : (id status index : ℤ) → length (ids_text id status index) ≤ 1472 → AreOctets (ids_text id status index)
unfolding ids_text
ids-octets id status index fits =
    let a : List ℕ = integer_text id in
    let b : List ℕ = integer_text status in
    let c : List ℕ = integer_text index in
    let more : length (b ++ c) ≤ 1472 = back-fits a (b ++ c) fits in
    both a (b ++ c) (integer-octets id (front-fits a (b ++ c) fits))
    (both b c (integer-octets status (front-fits b c more)) (integer-octets index (back-fits b c more)))

pdu-octets : (m : Message) → IsOctetMessage m → length (pdu_content m) ≤ 1472 → AreOctets (pdu_content m)
unfolding pdu_content
pdu-octets m is fits =
    let ids : List ℕ = ids_text m.id m.status m.index in
    let binds : List ℕ = flat_map binding_text m.binds.items in
    let list : List ℕ = tagged_text 48 binds in
    let inner : length list ≤ 1472 = back-fits ids list fits in
    both ids list (ids-octets m.id m.status m.index (front-fits ids list fits))
    (tagged-octets 48 binds (omega arith) inner (bindings-octets m.binds.items is.binds (inner-fits 48 binds inner)))

content-octets : (m : Message) → IsOctetMessage m → length (message_content m) ≤ 1472 → AreOctets (message_content m)
unfolding message_content
content-octets m is fits =
    let version : List ℕ = integer_text (pos 0) in
    let named : List ℕ = tagged_text 4 m.community.items in
    let body : List ℕ = tagged_text (tag_of m.pdu) (pdu_content m) in
    let more : length (named ++ body) ≤ 1472 = back-fits version (named ++ body) fits in
    let inner : length body ≤ 1472 = back-fits named body more in
    both version (named ++ body) (integer-octets (pos 0) (front-fits version (named ++ body) fits))
    (both named body (tagged-octets 4 m.community.items (omega arith) (front-fits named body more) is.community)
    (tagged-octets (tag_of m.pdu) (pdu_content m) (tag-low m.pdu) inner (pdu-octets m is (inner-fits (tag_of m.pdu) (pdu_content m) inner))))

-- the shortest text of a message of octets, where it fits, is the octets of a frame
pub shortest-frame : (m : Message) → IsOctetMessage m → length (shortest m) ≤ 1472 → IsFrame (shortest m)
unfolding shortest
shortest-frame m is fits = record {
  octets = tagged-octets 48 (message_content m) (omega arith) fits (content-octets m is (inner-fits 48 (message_content m) fits));
  some = omega arith;
  fits = fits;
}
