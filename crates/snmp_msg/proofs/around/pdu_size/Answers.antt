use Rattle.std.proofs.Common.{arith, ap, length, w32, rules}
use Rattle.std.proofs.lemmas.List.{length-append}
use mir.Val.{SFits}
use Rattle.ber_code.specs.Lengths.{length_text, tagged_text}
use Rattle.snmp_msg.specs.Shortest.{ids_text}
use Rattle.snmp_msg.specs.Parts.{message_in}
use Rattle.snmp_msg.specs.Around.{pdu_around}
use Rattle.snmp_msg.proofs.Rooms.{ids_passed}
use Rattle.snmp_msg.proofs.around.pdu_size.Goals as goal

pub returns-clause-size : goal.returns-clause-size
unfolding pdu_around
returns-clause-size c =
    let m = message_in c.args.m.now in
    let a : SFits w32 m.id = search rules in
    let b : SFits w32 m.status = search rules in
    let d : SFits w32 m.index = search rules in
    let ids = ap length (ids_passed m.id m.status m.index a b d) in
    let list = c.args.list.now in
    let parts = length-append (ids_text m.id m.status m.index) (tagged_text 48 list) in
    let under = length-append (length_text (length list)) list in
    omega (arith, ids, parts, under, c.ids_size.ensures.size, c.tagged_size.ensures.size)
