use Rattle.std.proofs.Common.{arith, ◌++◌, ◌+◌, length, ap, w32, to_z, of_z}
use Rattle.std.proofs.lemmas.List.{length-append}
use Rattle.ber_code.specs.Integers.{integer_text}
use Rattle.snmp_msg.specs.Shortest.{ids_text}
use Rattle.snmp_msg.proofs.Rooms.{no_room, passed}
use Rattle.snmp_msg.proofs.writing.put_ids.Goals as goal

pub returns-clause-full : goal.returns-clause-full
unfolding ids_text
returns-clause-full c =
    let later = length-append (integer_text c.args.status) (integer_text c.args.index) in
    let all = length-append (integer_text c.args.id) (integer_text c.args.status ++ integer_text c.args.index) in
    let a = ap length (passed c.args.id c.ranges.id) in
    let b = ap length (passed c.args.status c.ranges.status) in
    let d = ap length (passed c.args.index c.ranges.index) in
    let fits = c.write_int-3.ensures.variant in
    let one = length-append c.args.out.now.items (integer_text (to_z w32 (of_z w32 c.args.id))) in
    let two = length-append c.write_int.new.out.items (integer_text (to_z w32 (of_z w32 c.args.status))) in
    no_room c.write_int-3.result (length c.write_int-2.new.out.items + length (integer_text (to_z w32 (of_z w32 c.args.index))))
    (length c.args.out.now.items + length (integer_text c.args.id ++ (integer_text c.args.status ++ integer_text c.args.index)))
    fits (omega (arith, later, all, one, two, a, b, d, ap length c.in_ok-write_int.ensures.ok, ap length c.in_ok-write_int-2.ensures.ok))
