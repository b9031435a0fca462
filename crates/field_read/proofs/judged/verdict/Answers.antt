use Rattle.std.proofs.Common.{Ok, Err, arith}
use Rattle.field_read.proofs.Judging.{too-many, list-answered}
use Rattle.field_read.proofs.judged.verdict.Goals as goal

pub returns-then-count-gt1000000 : goal.returns-then-count-gt1000000
returns-then-count-gt1000000 c = λ e ds j.
    too-many e c.args.judged.count ds c.refuse_member.result (omega (arith, c.if-count-gt1000000.true)) j.counted c.refuse_member.ensures

pub returns-in-Some : goal.returns-in-Some
returns-in-Some c = λ e ds j. list-answered e c.args.judged ds (Err c.in-Some.fail) (omega (arith, c.if-count-gt1000000.false)) c.in-Some.is j

pub returns-in-None : goal.returns-in-None
returns-in-None c = λ e ds j. list-answered e c.args.judged ds (Ok tt) (omega (arith, c.if-count-gt1000000.false)) c.in-None.is j
