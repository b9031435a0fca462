use Rattle.std.proofs.Common.{ℕ, ◌≤◌, arith, ap, length, ◌++◌}
use Rattle.std.specs.Prelude.{pos}
use Rattle.std.proofs.lemmas.List.{length-append}
use Rattle.ber_code.specs.Lengths.{length_text, tagged_text}
use Rattle.ber_code.specs.Integers.{integer_text}
use Rattle.snmp_msg.specs.Messages.{tag_of}
use Rattle.snmp_msg.specs.Shortest.{message_content, pdu_content}
use Rattle.snmp_msg.specs.Parts.{message_in}
use Rattle.snmp_msg.proofs.WrittenLaws.{message_is}
use Rattle.snmp_msg.proofs.writing.content_size.Goals as goal

small : (c : goal.After-tagged_size-2) → length (message_content (message_in c.args.m.now)) ≤ 10320
unfolding message_content
small c =
    let m = message_in c.args.m.now in
    let known = m.community.items in
    let fields = pdu_content m in
    let all = length-append (integer_text (pos 0)) (tagged_text 4 known ++ tagged_text (tag_of m.pdu) fields) in
    let later = length-append (tagged_text 4 known) (tagged_text (tag_of m.pdu) fields) in
    let under_known = length-append (length_text (length known)) known in
    let under_fields = length-append (length_text (length fields)) fields in
    let known_size = ap (λ (n : ℕ). length (length_text n)) c.len.ensures.value in
    let fields_size = ap (λ (n : ℕ). length (length_text n)) c.requires.pdu in
    omega (
      arith,
      all,
      later,
      under_known,
      under_fields,
      known_size,
      fields_size,
      c.int_size.ensures.size,
      c.int_size.ensures.small,
      c.len.ensures.value,
      c.len.ensures.fits,
      c.tagged_size.ensures.size,
      c.tagged_size.ensures.small,
      c.tagged_size-2.ensures.size,
      c.tagged_size-2.ensures.small,
      c.requires.pdu,
      c.requires.small,
    )

pub returns-clause-text : goal.returns-clause-text
returns-clause-text c = message_is (message_in c.args.m.now) c.int_size.ensures.text (omega (arith, c.len.ensures.value, c.len.ensures.fits)) c.requires.text (small c)
