use Rattle.std.proofs.Common.{arith}
use Rattle.link_sim.proofs.LateLists.{keeps-later, keeps-now, keeps-sent}
use Rattle.link_sim.proofs.stream_line.keep_on.Goals as goal

pub returns-clause-later : goal.returns-clause-later
returns-clause-later c =
    keeps-later c.args.late.now c.late_list_of-place.result c.keep_in.new.late_list c.index-late-place.result c.args.round c.args.fault c.args.octets.now.items
    (omega arith) c.in_ok-keep_in.ensures.later c.late_list_of-place.ensures.own

pub returns-clause-now : goal.returns-clause-now
returns-clause-now c = keeps-now c.args.late.now c.late_list_of-place.result c.keep_in.new.late_list c.index-late-place.result c.args.round (omega arith) c.keep_in.ensures.now

pub returns-clause-sent : goal.returns-clause-sent
returns-clause-sent c = keeps-sent c.args.late.now c.late_list_of-place.result c.keep_in.new.late_list c.index-late-place.result c.args.round (omega arith) c.keep_in.ensures.sent c.requires.sent

pub returns-in_err-keep_in-clause-now : goal.returns-in_err-keep_in-clause-now
returns-in_err-keep_in-clause-now c = keeps-now c.args.late.now c.late_list_of-place.result c.keep_in.new.late_list c.index-late-place.result c.args.round (omega arith) c.keep_in.ensures.now

pub returns-in_err-keep_in-clause-sent : goal.returns-in_err-keep_in-clause-sent
returns-in_err-keep_in-clause-sent c = keeps-sent c.args.late.now c.late_list_of-place.result c.keep_in.new.late_list c.index-late-place.result c.args.round (omega arith) c.keep_in.ensures.sent c.requires.sent
