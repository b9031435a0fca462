use Rattle.judged_runs.proofs.Faultless.{trace-faultless}
use Rattle.judged_runs.proofs.traces_show_no_breach.Goals as goal

pub returns : goal.returns
returns c = λ text trace. trace-faultless text (c.traces_are_safe.ensures text trace) c.runs_show_no_breach.ensures c.lines_are_proper.ensures
