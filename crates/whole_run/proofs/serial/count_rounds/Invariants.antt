use Rattle.scenario_data.specs.Content.{scenario_content}
use Rattle.whole_run.specs.Adding.{counting_laws}
use Rattle.whole_run.proofs.Telling.{Goes}
use Rattle.whole_run.proofs.serial.count_rounds.Given as goal

-- that many rounds were run, and their lines were counted
abbrev pub invariant-loop-done : goal.invariant-loop-done
invariant-loop-done l = Goes counting_laws 0 (scenario_content l.s) l.done l.closed_loop l.fn.counts l.counts
