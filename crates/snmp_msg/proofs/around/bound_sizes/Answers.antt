use Rattle.std.proofs.Common.{ℕ, arith, ap, length}
use Rattle.std.proofs.lemmas.List.{length-append}
use Rattle.ber_code.specs.Lengths.{length_text}
use Rattle.ber_code.specs.Names.{name_octets, name_text}
use Rattle.snmp_msg.specs.Shortest.{value_text}
use Rattle.snmp_msg.proofs.around.bound_sizes.Goals as goal

pub returns-clause-size : goal.returns-clause-size
unfolding name_text
returns-clause-size c =
    let contents = name_octets c.args.name.now.items in
    let all = length-append (name_text c.args.name.now.items) (value_text c.args.value.now) in
    let under = length-append (length_text (length contents)) contents in
    let same = ap (λ (n : ℕ). length (length_text n)) c.oid_contents_size-contents.ensures.size in
    omega (arith, all, under, same, c.oid_contents_size-contents.ensures.size, c.tagged_size.ensures.size, c.value_size.ensures.size)
