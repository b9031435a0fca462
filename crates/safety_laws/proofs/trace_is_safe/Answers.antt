use Rattle.std.proofs.Common.{refl}
use Rattle.safety_laws.specs.Written.{tables_of}
use Rattle.safety_laws.proofs.History.{history-safe}
use Rattle.safety_laws.proofs.trace_is_safe.Goals as goal

pub returns : goal.returns
returns c = λ h has_line cab lines lawful tells e. history-safe h (tables_of h) has_line cab lines (λ version. refl) lawful tells e
