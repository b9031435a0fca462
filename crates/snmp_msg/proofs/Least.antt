-- The shortest text of a message is no longer than any other text of it.
use Rattle.std.proofs.Common.{◌≡◌, ℕ, suc, ◌<◌, ◌≤◌, List, [], ◌∷◌, ◌++◌, length, get_or, ap, subst, arith, inl, inr}
use Rattle.std.specs.Prelude.{ℤ, pos}
use Rattle.std.specs.List.{flat_map}
use Rattle.std.proofs.lemmas.Bool.{cases_lt, lt-ltb, le-ltb}
use Rattle.std.proofs.lemmas.Bool.Decides.{nat_tests}
use Rattle.std.proofs.lemmas.List.{length-append}
use Rattle.std.proofs.lemmas.List.Concat.{flat_map-cons}
use Rattle.ber_code.specs.Fields.{AreTexts}
use Rattle.ber_code.specs.Lengths.{IsLength, IsTagged, length_text, tagged_text}
use Rattle.ber_code.specs.Integers.{twos_complement, IsInteger, unsigned_part, integer_octets, integer_text}
use Rattle.ber_code.specs.Names.{IsArc, AreNameContents, IsName, arc_text, name_octets, name_text}
use Rattle.snmp_msg.specs.declared.message.Value.{Value}
use Rattle.snmp_msg.specs.declared.message.Value.TheVariants.{Int, Octets, Null, Name}
use Rattle.snmp_msg.specs.declared.message.Bind.{Bind}
use Rattle.snmp_msg.specs.declared.message.Message.{Message}
use Rattle.snmp_msg.specs.Values.{IsValue, IsBinding}
use Rattle.snmp_msg.specs.Messages.{tag_of, IsPdu, IsFramed}
use Rattle.snmp_msg.specs.Shortest.{value_text, binding_content, binding_text, ids_text, pdu_content, message_content, shortest, AreOctets}

pub are_octets : (octets : List ℕ) → ((i : ℕ) → get_or octets i 0 < 256) → AreOctets octets
are_octets [] fit = tt
are_octets (octet ∷ octets) fit = (fit 0, are_octets octets (λ i. fit (suc i)))

front : (xs ys : List ℕ) → AreOctets (xs ++ ys) → AreOctets xs
front [] ys all = tt
front (x ∷ xs) ys all = (all.0, front xs ys all.1)

back : (xs ys : List ℕ) → AreOctets (xs ++ ys) → AreOctets ys
back [] ys all = all
back (x ∷ xs) ys all = back xs ys all.1

-- ---- lengths

length_of_1 : (n : ℕ) → n < 128 → length (length_text n) ≤ 1
unfolding length_text
length_of_1 n small = grind (arith, nat_tests)

length_of_2 : (n : ℕ) → n < 256 → length (length_text n) ≤ 2
unfolding length_text
length_of_2 n small = grind (arith, nat_tests)

length_of_3 : (n : ℕ) → n < 65536 → length (length_text n) ≤ 3
unfolding length_text
length_of_3 n small = grind (arith, nat_tests)

length_of_4 : (n : ℕ) → n < 16777216 → length (length_text n) ≤ 4
unfolding length_text
length_of_4 n small = grind (arith, nat_tests)

length_of_5 : (n : ℕ) → length (length_text n) ≤ 5
unfolding length_text
length_of_5 n = grind (arith, nat_tests)

length_least : (len : List ℕ) (n m : ℕ) → AreOctets len → IsLength len n → m ≤ n → length (length_text m) ≤ length len
length_least [] n m all is few = absurd is
length_least (first ∷ more) n m all (inl low) few = omega (arith, length_of_1 m (omega arith))
length_least (first ∷ []) n m all (inr long) few = absurd (omega arith)
length_least (first ∷ a ∷ []) n m all (inr long) few = omega (arith, length_of_2 m (omega arith))
length_least (first ∷ a ∷ b ∷ []) n m all (inr long) few = omega (arith, length_of_3 m (omega arith))
length_least (first ∷ a ∷ b ∷ c ∷ []) n m all (inr long) few = omega (arith, length_of_4 m (omega arith))
length_least (first ∷ a ∷ b ∷ c ∷ d ∷ more) n m all (inr long) few = omega (arith, length_of_5 m)

-- what a tag holds is octets too
content_octets : (tag : ℕ) (text content : List ℕ) → AreOctets text → IsTagged tag text content → AreOctets content
content_octets tag text content all is = back is.0 content (subst AreOctets is.2 all).1

-- a content that is no longer makes a text that is no longer
tagged_least : (tag : ℕ) (text content short : List ℕ) → AreOctets text → IsTagged tag text content → length short ≤ length content
    → length (tagged_text tag short) ≤ length text
tagged_least tag text content short all is few =
    let len = length_least is.0 (length content) (length short) (front is.0 content (subst AreOctets is.2 all).1) is.1 few in
    omega (arith, len, few, length-append (length_text (length short)) short, length-append is.0 content, ap length is.2)

-- ---- integers

part_of_1 : (a : ℕ) → a < 256 → unsigned_part (twos_complement (a ∷ [])) < 128
part_of_1 a fits = elim (cases_lt a 128) [ inl low ↦ rw (lt-ltb a 128 low) (omega arith) | inr high ↦ rw (le-ltb a 128 high) (omega arith) ]

part_of_2 : (a b : ℕ) → a < 256 → b < 256 → unsigned_part (twos_complement (a ∷ b ∷ [])) < 32768
part_of_2 a b fits fits' = elim (cases_lt a 128) [ inl low ↦ rw (lt-ltb a 128 low) (omega arith) | inr high ↦ rw (le-ltb a 128 high) (omega arith) ]

part_of_3 : (a b c : ℕ) → a < 256 → b < 256 → c < 256 → unsigned_part (twos_complement (a ∷ b ∷ c ∷ [])) < 8388608
part_of_3 a b c fits fits' fits'' = elim (cases_lt a 128) [ inl low ↦ rw (lt-ltb a 128 low) (omega arith) | inr high ↦ rw (le-ltb a 128 high) (omega arith) ]

octets_of_1 : (n : ℤ) → unsigned_part n < 128 → length (integer_octets n) ≤ 1
unfolding integer_octets
octets_of_1 n small = grind (arith, nat_tests)

octets_of_2 : (n : ℤ) → unsigned_part n < 32768 → length (integer_octets n) ≤ 2
unfolding integer_octets
octets_of_2 n small = grind (arith, nat_tests)

octets_of_3 : (n : ℤ) → unsigned_part n < 8388608 → length (integer_octets n) ≤ 3
unfolding integer_octets
octets_of_3 n small = grind (arith, nat_tests)

octets_of_4 : (n : ℤ) → length (integer_octets n) ≤ 4
unfolding integer_octets
octets_of_4 n = grind (arith, nat_tests)

contents_least : (octets : List ℕ) (n : ℤ) → AreOctets octets → 1 ≤ length octets → n ≡ twos_complement octets → length (integer_octets n) ≤ length octets
contents_least [] n all some is = absurd (omega arith)
contents_least (a ∷ []) n all some is = octets_of_1 n (rw is (part_of_1 a all.0))
contents_least (a ∷ b ∷ []) n all some is = octets_of_2 n (rw is (part_of_2 a b all.0 all.1.0))
contents_least (a ∷ b ∷ c ∷ []) n all some is = octets_of_3 n (rw is (part_of_3 a b c all.0 all.1.0 all.1.1.0))
contents_least (a ∷ b ∷ c ∷ d ∷ more) n all some is = omega (arith, octets_of_4 n)

integer_least : (text : List ℕ) (n : ℤ) → AreOctets text → IsInteger text n → length (integer_text n) ≤ length text
unfolding integer_text
integer_least text n all is =
    let octets = content_octets 2 text is.0 all is.2 in
    tagged_least 2 text is.0 (integer_octets n) all is.2 (contents_least is.0 n octets is.1.some is.1.number)

-- ---- texts one after the other

texts_least : {A : Type 0} (IsText : List ℕ → A → Type 0) (short : A → List ℕ)
    → ((text : List ℕ) (value : A) → AreOctets text → IsText text value → length (short value) ≤ length text)
    → (octets : List ℕ) (values : List A) → AreOctets octets → AreTexts IsText octets values → length (flat_map short values) ≤ length octets
texts_least IsText short each octets [] all are = omega arith
texts_least IsText short each octets (value ∷ values) all are =
    let both = subst AreOctets are.4 all in
    let here = each are.0 value (front are.0 are.1 both) are.2 in
    let others = texts_least IsText short each are.1 values (back are.0 are.1 both) are.3 in
    rw flat_map-cons (omega (arith, here, others, length-append (short value) (flat_map short values), length-append are.0 are.1, ap length are.4))

-- ---- names

arc_of_1 : (n : ℕ) → n < 128 → length (arc_text n) ≤ 1
unfolding arc_text
arc_of_1 n small = grind (arith, nat_tests)

arc_of_2 : (n : ℕ) → n < 16384 → length (arc_text n) ≤ 2
unfolding arc_text
arc_of_2 n small = grind (arith, nat_tests)

arc_of_3 : (n : ℕ) → n < 2097152 → length (arc_text n) ≤ 3
unfolding arc_text
arc_of_3 n small = grind (arith, nat_tests)

arc_of_4 : (n : ℕ) → n < 268435456 → length (arc_text n) ≤ 4
unfolding arc_text
arc_of_4 n small = grind (arith, nat_tests)

arc_of_5 : (n : ℕ) → length (arc_text n) ≤ 5
unfolding arc_text
arc_of_5 n = grind (arith, nat_tests)

arc_least : (text : List ℕ) (arc : ℕ) → AreOctets text → IsArc text arc → length (arc_text arc) ≤ length text
arc_least [] arc all is = absurd is.runs_on
arc_least (a ∷ []) arc all is = let n = is.number in arc_of_1 arc (omega arith)
arc_least (a ∷ b ∷ []) arc all is = let n = is.number in arc_of_2 arc (omega arith)
arc_least (a ∷ b ∷ c ∷ []) arc all is = let n = is.number in arc_of_3 arc (omega arith)
arc_least (a ∷ b ∷ c ∷ d ∷ []) arc all is = let n = is.number in arc_of_4 arc (omega arith)
arc_least (a ∷ b ∷ c ∷ d ∷ e ∷ more) arc all is = omega (arith, arc_of_5 arc)

name_contents_least : (octets arcs : List ℕ) → AreOctets octets → AreNameContents octets arcs → length (name_octets arcs) ≤ length octets
name_contents_least octets [] all are = absurd are
name_contents_least octets (first ∷ []) all are = absurd are
name_contents_least octets (first ∷ second ∷ later) all are =
    let more = texts_least IsArc arc_text arc_least are.2 later (subst AreOctets are.3 all).1 are.4 in
    omega (arith, more, ap length are.3)

name_least : (text arcs : List ℕ) → AreOctets text → IsName text arcs → length (name_text arcs) ≤ length text
unfolding name_text
name_least text arcs all is =
    tagged_least 6 text is.0 (name_octets arcs) all is.2 (name_contents_least is.0 arcs (content_octets 6 text is.0 all is.2) is.1)

-- ---- values, bindings and messages

value_least : (text : List ℕ) (v : Value) → AreOctets text → IsValue text v → length (value_text v) ≤ length text
unfolding value_text
value_least text (Int n) all is = integer_least text n all is
value_least text (Octets octets) all is = tagged_least 4 text octets.items octets.items all is.0 (omega arith)
value_least text Null all is = tagged_least 5 text [] [] all is (omega arith)
value_least text (Name name) all is = name_least text name.items all is

binding_least : (text : List ℕ) (bind : Bind) → AreOctets text → IsBinding text bind → length (binding_text bind) ≤ length text
unfolding binding_text
binding_least text bind all is =
    let content = content_octets 48 text (is.name ++ is.value) all is.whole in
    let name = name_least is.name bind.name.items (front is.name is.value content) is.names in
    let value = value_least is.value bind.value (back is.name is.value content) is.values in
    tagged_least 48 text (is.name ++ is.value) (binding_content bind) all is.whole
    (omega (arith, name, value, length-append is.name is.value, length-append (name_text bind.name.items) (value_text bind.value)))

-- four texts in a row
in_a_row : (a b c d a' b' c' d' : List ℕ) → length a ≤ length a' → length b ≤ length b' → length c ≤ length c' → length d ≤ length d'
    → length ((a ++ (b ++ c)) ++ d) ≤ length (a' ++ (b' ++ (c' ++ d')))
in_a_row a b c d a' b' c' d' p q r s =
    omega (arith, length-append (a ++ (b ++ c)) d, length-append a (b ++ c), length-append b c, length-append a' (b' ++ (c' ++ d')), length-append b' (c' ++ d'), length-append c' d')

pdu_least : (text : List ℕ) (m : Message) → AreOctets text → IsPdu text m → length (tagged_text (tag_of m.pdu) (pdu_content m)) ≤ length text
unfolding pdu_content ids_text
pdu_least text m all is =
    let content = content_octets (tag_of m.pdu) text (is.id ++ (is.status ++ (is.index ++ is.list))) all is.whole in
    let after_id = back is.id (is.status ++ (is.index ++ is.list)) content in
    let after_status = back is.status (is.index ++ is.list) after_id in
    let id = integer_least is.id m.id (front is.id (is.status ++ (is.index ++ is.list)) content) is.ids in
    let status = integer_least is.status m.status (front is.status (is.index ++ is.list) after_id) is.statuses in
    let index = integer_least is.index m.index (front is.index is.list after_status) is.indices in
    let in_list = back is.index is.list after_status in
    let binds = texts_least IsBinding binding_text binding_least is.bindings m.binds.items (content_octets 48 is.list is.bindings in_list is.lists) is.binds in
    let list = tagged_least 48 is.list is.bindings (flat_map binding_text m.binds.items) in_list is.lists binds in
    tagged_least (tag_of m.pdu) text (is.id ++ (is.status ++ (is.index ++ is.list))) (pdu_content m) all is.whole
    (in_a_row (integer_text m.id) (integer_text m.status) (integer_text m.index) (tagged_text 48 (flat_map binding_text m.binds.items)) is.id is.status is.index is.list id status index list)

-- three texts in a row
three_in_a_row : (a b c a' b' c' : List ℕ) → length a ≤ length a' → length b ≤ length b' → length c ≤ length c' → length (a ++ (b ++ c)) ≤ length (a' ++ (b' ++ c'))
three_in_a_row a b c a' b' c' p q r =
    omega (arith, length-append a (b ++ c), length-append b c, length-append a' (b' ++ c'), length-append b' c')

pub message_least : (text : List ℕ) (m : Message) → AreOctets text → IsFramed text m → length (shortest m) ≤ length text
unfolding shortest message_content
message_least text m all is =
    let content = content_octets 48 text (is.version ++ (is.community ++ is.pdu)) all is.whole in
    let after_version = back is.version (is.community ++ is.pdu) content in
    let version = integer_least is.version (pos 0) (front is.version (is.community ++ is.pdu) content) is.versions in
    let community = tagged_least 4 is.community m.community.items m.community.items (front is.community is.pdu after_version) is.communities (omega arith) in
    let pdu = pdu_least is.pdu m (back is.community is.pdu after_version) is.pdus in
    tagged_least 48 text (is.version ++ (is.community ++ is.pdu)) (message_content m) all is.whole
    (three_in_a_row (integer_text (pos 0)) (tagged_text 4 m.community.items) (tagged_text (tag_of m.pdu) (pdu_content m)) is.version is.community is.pdu version community pdu)
