use Rattle.look_back.proofs.Stages.{breaks, goes-on}
use Rattle.look_back.proofs.frame_history.FrameHistory.stage.Goals as goal

pub returns-then-breaks_in : goal.returns-then-breaks_in
returns-then-breaks_in c = λ past inputs looks last are none.
    breaks c.args.t.now inputs past c.called-called.result c.args.last.now c.breaks_in.result
    (c.called-called.ensures inputs past (c.long_counts.ensures past looks) are) last c.breaks_in.ensures c.if-breaks_in.true

pub returns-else-breaks_in : goal.returns-else-breaks_in
returns-else-breaks_in c = λ past inputs looks last are none.
    goes-on c.args.t.now inputs past c.called-called.result c.args.last.now c.breaks_in.result _
    (c.called-called.ensures inputs past (c.long_counts.ensures past looks) are) last c.breaks_in.ensures c.if-breaks_in.false
    (c.stage_after.ensures past inputs looks last are none)
