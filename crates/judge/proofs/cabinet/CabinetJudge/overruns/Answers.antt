use Rattle.judge.proofs.Overrunning.{overruns-are-listed}
use Rattle.judge.proofs.cabinet.CabinetJudge.overruns.Goals as goal

pub returns : goal.returns
returns c = λ joined tables older cab follows.
    overruns-are-listed cab c.args.tick c.args.tolerance tables older c.each_overruns.result
    (λ k few. c.each_overruns.ensures k few joined tables older (follows.phases k few))
