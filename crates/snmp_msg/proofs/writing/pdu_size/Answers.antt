use Rattle.std.proofs.Common.{◌≡◌, ◌+◌, ℕ, arith, ap, length, w32, rules}
use Rattle.std.specs.List.{flat_map}
use Rattle.std.proofs.lemmas.List.{length-append}
use mir.Val.{SFits}
use Rattle.ber_code.specs.Lengths.{length_text, tagged_text}
use Rattle.ber_code.proofs.Texts.{integer_is}
use Rattle.snmp_msg.specs.Shortest.{ids_text, binding_text, pdu_content}
use Rattle.snmp_msg.proofs.Rooms.{ids_passed}
use Rattle.snmp_msg.specs.Parts.{message_in}
use Rattle.snmp_msg.proofs.WrittenLaws.{pdu_is}
use Rattle.snmp_msg.proofs.writing.pdu_size.Goals as goal

sizes : (c : goal.After-tagged_size) → c.ids_size.result + c.tagged_size.result ≡ length (pdu_content (message_in c.args.m.now))
unfolding pdu_content
sizes c =
    let m = message_in c.args.m.now in
    let a : SFits w32 m.id = search rules in
    let b : SFits w32 m.status = search rules in
    let d : SFits w32 m.index = search rules in
    let ids = ap length (ids_passed m.id m.status m.index a b d) in
    let list = flat_map binding_text m.binds.items in
    let parts = length-append (ids_text m.id m.status m.index) (tagged_text 48 list) in
    let under = length-append (length_text (length list)) list in
    let same = ap (λ (n : ℕ). length (length_text n)) c.requires.size in
    omega (arith, ids, parts, under, same, c.ids_size.ensures.size, c.tagged_size.ensures.size, c.requires.size)

pub returns-clause-size : goal.returns-clause-size
returns-clause-size c = sizes c

pub returns-clause-text : goal.returns-clause-text
returns-clause-text c =
    let m = message_in c.args.m.now in
    let a : SFits w32 m.id = search rules in
    let b : SFits w32 m.status = search rules in
    let d : SFits w32 m.index = search rules in
    let size = sizes c in
    pdu_is m (integer_is m.id a) (integer_is m.status b) (integer_is m.index d) c.requires.texts c.requires.few
    (omega (arith, c.requires.size, c.requires.small)) (omega (arith, size, c.ids_size.ensures.small, c.tagged_size.ensures.small, c.requires.small))
