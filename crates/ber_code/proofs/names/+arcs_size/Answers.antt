use Rattle.std.proofs.Common.{arith}
use Rattle.ber_code.proofs.Fours.{four_sizes}
use Rattle.ber_code.proofs.names.+arcs_size.Goals as goal

pub returns-in-len4-up-clause-size : goal.returns-in-len4-up-clause-size
returns-in-len4-up-clause-size t c =
    let all = four_sizes c.args.arcs.now c.in-len4-up.len_at_least c.if-a-lt128.true c.if-b-lt128.true c.if-c-lt128.true c.if-d-lt128.true in
    omega (arith, all, c.arcs_size.ensures.size)
