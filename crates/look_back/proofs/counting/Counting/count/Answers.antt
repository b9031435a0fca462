use Rattle.look_back.proofs.Counters.{of-pattern}
use Rattle.look_back.proofs.counting.Counting.count.Goals as goal

pub returns : goal.returns
returns c = λ past n stands coord. of-pattern c.args.self past n stands coord
