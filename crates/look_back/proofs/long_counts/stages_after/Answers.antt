use Rattle.look_back.proofs.Numbers.{stage-more, stage-anew}
use Rattle.look_back.proofs.long_counts.stages_after.Goals as goal

pub returns-then-goes_on : goal.returns-then-goes_on
returns-then-goes_on c = rw c.if-goes_on.true (stage-more c.args.stages _ c.step.ensures)

pub returns-else-goes_on : goal.returns-else-goes_on
returns-else-goes_on c = rw c.if-goes_on.false (stage-anew c.args.stages _ _ c.new.ensures c.step-else-goes_on.ensures)
