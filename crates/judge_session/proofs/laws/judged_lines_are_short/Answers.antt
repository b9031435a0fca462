use Rattle.judge_session.proofs.Lengths.{short}
use Rattle.judge_session.proofs.laws.judged_lines_are_short.Goals as goal

pub returns : goal.returns
returns c = short
