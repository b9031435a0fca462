use Rattle.safety_laws.proofs.Shown.{admitted-safe}
use Rattle.safety_laws.proofs.Loaded.{history-whole}
use Rattle.safety_laws.proofs.safe_streets.admitted_streets_are_safe.Goals as goal

pub returns-clause-safe : goal.returns-clause-safe
returns-clause-safe c = admitted-safe

pub returns-clause-whole : goal.returns-clause-whole
returns-clause-whole c = history-whole
