use Rattle.judge_laws.proofs.Leaving.{joining-fewer}
use Rattle.judge_laws.proofs.joining_adds_none.Goals as goal

pub returns : goal.returns
returns c = joining-fewer
