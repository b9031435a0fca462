use Rattle.std.proofs.Common.{arith, ◌++◌, length, ap}
use Rattle.std.proofs.lemmas.List.{length-append}
use Rattle.ber_code.specs.Integers.{integer_text}
use Rattle.snmp_msg.specs.Shortest.{ids_text}
use Rattle.snmp_msg.proofs.Rooms.{passed}
use Rattle.snmp_msg.proofs.writing.ids_size.Goals as goal

pub returns-clause-size : goal.returns-clause-size
unfolding ids_text
returns-clause-size c =
    let later = length-append (integer_text c.args.status) (integer_text c.args.index) in
    let all = length-append (integer_text c.args.id) (integer_text c.args.status ++ integer_text c.args.index) in
    let a = ap length (passed c.args.id c.ranges.id) in
    let b = ap length (passed c.args.status c.ranges.status) in
    let d = ap length (passed c.args.index c.ranges.index) in
    omega (arith, later, all, a, b, d)
