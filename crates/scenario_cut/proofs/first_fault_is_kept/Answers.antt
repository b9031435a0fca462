use Rattle.scenario_cut.proofs.Scenario.{first-kept}
use Rattle.scenario_cut.proofs.first_fault_is_kept.Goals as goal

pub returns : goal.returns
returns c = first-kept
