-- A Response that repeats the request's bindings is no longer than the request.
use Rattle.std.proofs.Common.{◌≡◌, ℕ, ◌<◌, ◌≤◌, List, ◌++◌, length, arith}
use Rattle.std.specs.Prelude.{ℤ, pos}
use Rattle.std.proofs.lemmas.Bool.Decides.{nat_tests}
use Rattle.std.proofs.lemmas.List.{length-append}
use Rattle.ber_code.specs.Lengths.{length_text, tagged_text}
use Rattle.ber_code.specs.Integers.{integer_octets, integer_text}
use Rattle.snmp_msg.specs.declared.message.Message.{Message}
use Rattle.snmp_msg.specs.Shortest.{ids_text, pdu_content, message_content, shortest, binding_text}
use Rattle.std.specs.List.{flat_map}
use Rattle.snmp_msg.specs.Messages.{tag_of}
use Rattle.agent.specs.Replies.{repeated}

-- a content that is no longer has a length that is no longer
length_rises : (m n : ℕ) → m ≤ n → length (length_text m) ≤ length (length_text n)
unfolding length_text
length_rises m n few = grind (arith, nat_tests)

tagged_rises : (tag tag' : ℕ) (short long : List ℕ) → length short ≤ length long → length (tagged_text tag short) ≤ length (tagged_text tag' long)
tagged_rises tag tag' short long few =
    omega (arith, few, length_rises (length short) (length long) few, length-append (length_text (length short)) short, length-append (length_text (length long)) long)

-- an INTEGER takes three octets at least
some_octets : (n : ℤ) → 1 ≤ length (integer_octets n)
unfolding integer_octets
some_octets n = grind (arith, nat_tests)

some_length : (n : ℕ) → 1 ≤ length (length_text n)
unfolding length_text
some_length n = grind (arith, nat_tests)

integer_some : (n : ℤ) → 3 ≤ length (integer_text n)
unfolding integer_text
integer_some n = omega (arith, some_octets n, some_length (length (integer_octets n)), length-append (length_text (length (integer_octets n))) (integer_octets n))

-- and no more where it is below 128
integer_of_3 : (n : ℕ) → n < 128 → length (integer_text (pos n)) ≡ 3
unfolding integer_text integer_octets length_text
integer_of_3 n low = grind (arith, nat_tests)

ids_fit : (id status index : ℤ) (s i : ℕ) → s < 128 → i < 128 → length (ids_text id (pos s) (pos i)) ≤ length (ids_text id status index)
unfolding ids_text
ids_fit id status index s i low low' =
    omega (
      arith,
      integer_of_3 s low,
      integer_of_3 i low',
      integer_some status,
      integer_some index,
      length-append (integer_text id) (integer_text (pos s) ++ integer_text (pos i)),
      length-append (integer_text (pos s)) (integer_text (pos i)),
      length-append (integer_text id) (integer_text status ++ integer_text index),
      length-append (integer_text status) (integer_text index),
    )

pdu_fits : (m : Message) (s i : ℕ) → s < 128 → i < 128 → length (pdu_content (repeated m s i)) ≤ length (pdu_content m)
unfolding pdu_content
pdu_fits m s i low low' =
    let list = tagged_text 48 (flat_map binding_text m.binds.items) in
    omega (arith, ids_fit m.id m.status m.index s i low low', length-append (ids_text m.id (pos s) (pos i)) list, length-append (ids_text m.id m.status m.index) list)

content_fits : (m : Message) (s i : ℕ) → s < 128 → i < 128 → length (message_content (repeated m s i)) ≤ length (message_content m)
unfolding message_content
content_fits m s i low low' =
    let community = tagged_text 4 m.community.items in
    let pdu = tagged_text 162 (pdu_content (repeated m s i)) in
    let pdu' = tagged_text (tag_of m.pdu) (pdu_content m) in
    omega (
      arith,
      tagged_rises 162 (tag_of m.pdu) (pdu_content (repeated m s i)) (pdu_content m) (pdu_fits m s i low low'),
      length-append (integer_text (pos 0)) (community ++ pdu),
      length-append community pdu,
      length-append (integer_text (pos 0)) (community ++ pdu'),
      length-append community pdu',
    )

pub repeated_fits : (m : Message) (status index : ℕ) → status < 128 → index < 128 → length (shortest (repeated m status index)) ≤ length (shortest m)
unfolding shortest
repeated_fits m s i low low' = tagged_rises 48 48 (message_content (repeated m s i)) (message_content m) (content_fits m s i low low')
