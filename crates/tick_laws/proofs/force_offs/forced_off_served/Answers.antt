use Rattle.tick_laws.proofs.ForcedSignals.{signal-step, served-at_force_off}
use Rattle.tick_laws.proofs.force_offs.forced_off_served.Goals as goal

pub returns-clause-step : goal.returns-clause-step
returns-clause-step c = signal-step

pub returns-clause-served : goal.returns-clause-served
returns-clause-served c = served-at_force_off
