use Rattle.std.proofs.Common.{◌+◌, arith, length, take, ap}
use Rattle.std.specs.List.{flat_map}
use Rattle.std.proofs.lemmas.List.{length-append}
use Rattle.snmp_msg.specs.Shortest.{binding_text}
use Rattle.ber_code.proofs.Pieces.{texts_fit}
use Rattle.snmp_msg.proofs.Rooms.{no_room_at}
use Rattle.snmp_msg.proofs.writing.put_bindings.Goals as goal

pub returns-in_err-put_binding-clause-full : goal.returns-in_err-put_binding-clause-full
returns-in_err-put_binding-clause-full c =
    let fit = texts_fit binding_text c.args.binds.now c.loop-bind.bind-index c.bind-item.result c.loop-bind-test.true in
    let so_far = length-append c.args.out.now.items (flat_map binding_text (take c.loop-bind.bind-index c.args.binds.now)) in
    let full = c.in_err-put_binding.ensures.full in
    no_room_at c.from_residual.result (length c.loop-bind.out.items + length (binding_text c.bind-item.result))
    (length c.args.out.now.items + length (flat_map binding_text c.args.binds.now)) full
    (omega (arith, fit, so_far, ap length c.loop-bind.invariant, ap (λ b. length (binding_text b)) c.bind-item.is))
