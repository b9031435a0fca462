use Rattle.look_back.proofs.Lasts.{reached}
use Rattle.look_back.proofs.Reaches.{just-within}
use Rattle.look_back.proofs.reach.reach_decides.Goals as goal

pub returns-clause-reached : goal.returns-clause-reached
returns-clause-reached c = λ time run le. reached time 4096 run le

pub returns-clause-just : goal.returns-clause-just
returns-clause-just c = λ time run lt. just-within time 4096 run lt
