use Rattle.tick_laws.proofs.Others.{other-step, other-at_zero}
use Rattle.tick_laws.proofs.force_offs.others_in_time.Goals as goal

pub returns-clause-step : goal.returns-clause-step
returns-clause-step c = other-step

pub returns-clause-at_zero : goal.returns-clause-at_zero
returns-clause-at_zero c = other-at_zero
