use Rattle.std.proofs.Common.{sym}
use Rattle.preempt_run.proofs.Called.{seen-on, those-on}
use Rattle.preempt_run.proofs.Preempts.on.Goals as goal

pub returns-clause-has : goal.returns-clause-has
returns-clause-has c = λ past stands i above within. sym (seen-on c.args.self.now past stands i above within)

pub returns-clause-preempts : goal.returns-clause-preempts
returns-clause-preempts c = λ past stands. those-on c.args.self.now past stands
