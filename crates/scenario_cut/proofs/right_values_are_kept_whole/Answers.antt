use Rattle.scenario_cut.proofs.Entire.{faultless-entire}
use Rattle.scenario_cut.proofs.right_values_are_kept_whole.Goals as goal

pub returns : goal.returns
returns c = faultless-entire
