use Rattle.std.proofs.Common.{◌≡◌, arith, subst, ap, length, take, get_or}
use Rattle.std.specs.List.{flat_map}
use Rattle.std.proofs.lemmas.List.{length-append}
use Rattle.snmp_msg.specs.declared.message.Bind.{Bind}
use Rattle.snmp_msg.specs.Values.{IsBinding}
use Rattle.snmp_msg.specs.Shortest.{binding_text}
use Rattle.ber_code.proofs.Pieces.{texts_more}
use Rattle.snmp_msg.proofs.WrittenLaws.{bindings_more, length_of_binding}
use Rattle.snmp_msg.proofs.writing.bindings_size.Goals as goal

pub loop-bind-preserved : goal.loop-bind-preserved
loop-bind-preserved c =
    let binds = c.args.binds.now in
    let i = c.loop-bind.bind-index in
    let bind = c.bind-item.result in
    let same : bind ≡ get_or binds i bind = c.bind-item.is in
    let more = ap length (texts_more binding_text binds i bind c.loop-bind-test.true) in
    let parts = length-append (flat_map binding_text (take i binds)) (binding_text (get_or binds i bind)) in
    let one = length_of_binding bind c.tagged_size-size.result c.binding_size.result c.binding_size.ensures.size c.tagged_size-size.ensures.size in
    record {
      size = omega (arith, more, parts, one, ap (λ (b : Bind). length (binding_text b)) same, c.loop-bind.invariant.size);
      texts = bindings_more binds i bind c.loop-bind-test.true c.loop-bind.invariant.texts
          (subst (λ (b : Bind). IsBinding (binding_text b) b) same c.binding_size.ensures.text);
      small = omega (arith, c.binding_size.ensures.small, c.tagged_size-size.ensures.small, c.loop-bind.invariant.small);
    }
