use Rattle.std.proofs.Common.{ℕ, arith, ap, length, ◌++◌}
use Rattle.std.specs.Prelude.{pos}
use Rattle.std.proofs.lemmas.List.{length-append}
use Rattle.ber_code.specs.Lengths.{length_text, tagged_text}
use Rattle.ber_code.specs.Integers.{integer_text}
use Rattle.snmp_msg.specs.Messages.{tag_of}
use Rattle.snmp_msg.specs.Parts.{message_in}
use Rattle.snmp_msg.specs.Around.{pdu_around, content_around}
use Rattle.snmp_msg.proofs.around.content_size.Goals as goal

pub returns-clause-size : goal.returns-clause-size
unfolding content_around
returns-clause-size c =
    let m = message_in c.args.m.now in
    let known = m.community.items in
    let fields = pdu_around m c.args.list.now in
    let all = length-append (integer_text (pos 0)) (tagged_text 4 known ++ tagged_text (tag_of m.pdu) fields) in
    let later = length-append (tagged_text 4 known) (tagged_text (tag_of m.pdu) fields) in
    let under_known = length-append (length_text (length known)) known in
    let under_fields = length-append (length_text (length fields)) fields in
    let known_size = ap (λ (n : ℕ). length (length_text n)) c.len.ensures.value in
    let fields_size = ap (λ (n : ℕ). length (length_text n)) c.requires.pdu in
    omega (
      arith,
      all,
      later,
      under_known,
      under_fields,
      known_size,
      fields_size,
      c.int_size.ensures.size,
      c.len.ensures.value,
      c.tagged_size.ensures.size,
      c.tagged_size-2.ensures.size,
      c.requires.pdu,
    )
