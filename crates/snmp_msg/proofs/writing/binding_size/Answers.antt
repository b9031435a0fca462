use Rattle.std.proofs.Common.{arith}
use Rattle.std.proofs.lemmas.List.{length-append}
use Rattle.ber_code.specs.Names.{name_text}
use Rattle.snmp_msg.specs.Shortest.{value_text}
use Rattle.snmp_msg.proofs.WrittenLaws.{binding_is}
use Rattle.snmp_msg.proofs.writing.binding_size.Goals as goal

pub returns-clause-text : goal.returns-clause-text
returns-clause-text c =
    let bind = c.args.bind.now in
    let all = length-append (name_text bind.name.items) (value_text bind.value) in
    binding_is bind c.oid_size.ensures.text c.value_size.ensures.text (omega (arith, all))
