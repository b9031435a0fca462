use Rattle.judged_runs.proofs.Faultless.{faultless}
use Rattle.judged_runs.proofs.runs_show_no_breach.Goals as goal

pub returns : goal.returns
returns c = λ s run journals are.
    faultless s journals are (c.any_order_is_safe.ensures s run.can_open journals are) (c.lines_are_proper.ensures s run journals are)
