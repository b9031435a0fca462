use Rattle.safety_laws.proofs.History.{history-whole}
use Rattle.safety_laws.proofs.undisturbed_is_whole.Goals as goal

pub returns : goal.returns
returns c = λ h has_line cab lines none e loads. history-whole h has_line cab lines none e loads
