use Rattle.scenario_checked.proofs.Ranges.{runs}
use Rattle.scenario_checked.proofs.scenarios_run.Goals as goal

pub returns : goal.returns
returns c = runs
