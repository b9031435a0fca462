use Rattle.coordination_laws.proofs.AnyTarget.{steps-on, zero-comes}
use Rattle.coordination_laws.proofs.offset.local_zero_comes.Goals as goal

pub returns-clause-step : goal.returns-clause-step
returns-clause-step c = steps-on

pub returns-clause-comes : goal.returns-clause-comes
returns-clause-comes c = zero-comes
