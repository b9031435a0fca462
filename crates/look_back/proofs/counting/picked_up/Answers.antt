use Rattle.look_back.proofs.Counters.{picked}
use Rattle.look_back.proofs.counting.picked_up.Goals as goal

pub returns : goal.returns
returns c = picked c.new-count.result _ c.args.counter c.new-count.ensures.picked_up c.pass.ensures.passed
