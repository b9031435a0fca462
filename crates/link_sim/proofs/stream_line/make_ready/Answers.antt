use Rattle.std.proofs.Common.{◌%◌, arith}
use Rattle.link_sim.proofs.LateLists.{one-next}
use Rattle.link_sim.proofs.stream_line.make_ready.Goals as goal

pub returns-then-round-last-clause-now : goal.returns-then-round-last-clause-now
returns-then-round-last-clause-now c = λ due h. (c.drop_all.ensures.drops (due % 32)).now due h

pub returns-then-round-last-clause-next : goal.returns-then-round-last-clause-next
returns-then-round-last-clause-next c = λ due h. (c.drop_all.ensures.drops (due % 32)).next due h

pub returns-then-round-last-clause-sent : goal.returns-then-round-last-clause-sent
returns-then-round-last-clause-sent c = λ k. (c.drop_all.ensures.drops k).sent

pub returns-else-round-last-clause-next : goal.returns-else-round-last-clause-next
returns-else-round-last-clause-next c =
    one-next c.args.late.now c.drop_one.new.late c.args.last c.args.round (omega arith) c.requires.sent c.drop_one.ensures.own c.drop_one.ensures.others
