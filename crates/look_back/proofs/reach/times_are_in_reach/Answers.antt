use Rattle.look_back.proofs.Reaches.{within}
use Rattle.look_back.proofs.reach.times_are_in_reach.Goals as goal

pub returns : goal.returns
returns c = record { times = λ t p ranges above below. within t p (ranges.phases p above below) }
