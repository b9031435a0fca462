use Rattle.tick_laws.proofs.Steps.{counter-steps}
use Rattle.tick_laws.proofs.force_offs.counter_steps.Goals as goal

pub returns : goal.returns
returns c = counter-steps
