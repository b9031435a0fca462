use Rattle.std.proofs.Common.{◌%◌, arith}
use Rattle.link_sim.proofs.LateLists.{drops-own, on_late_list-other}
use Rattle.link_sim.proofs.stream_line.drop_one.Goals as goal

pub returns-clause-own : goal.returns-clause-own
returns-clause-own c = drops-own c.args.late.now (c.args.round % 32) c.drop_in.new.late_list c.index-late-round.result c.args.round (omega arith) c.drop_in.ensures.drops

pub returns-clause-others : goal.returns-clause-others
returns-clause-others c = λ k ne. on_late_list-other c.args.late.now (c.args.round % 32) k c.drop_in.new.late_list ne
