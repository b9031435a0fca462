use Rattle.judge_laws.proofs.Leaving.{tolerance-fewer}
use Rattle.judge_laws.proofs.tolerance_leaves_out.Goals as goal

pub returns : goal.returns
returns c = tolerance-fewer
