use Rattle.std.proofs.Common.{ap, ◌∙◌}
use Rattle.std.proofs.lemmas.List.{get_or-replicate}
use Rattle.sig_types.specs.declared.phase_set.PhaseSet.{PhaseSet}
use Rattle.sig_types.specs.PhaseSet.{has}
use Rattle.detector_bank.proofs.changes.none_called.Goals as goal

pub returns : goal.returns
returns c = λ k p s low. ap (λ (t : PhaseSet). has t p) (get_or-replicate 64 k c.empty-none.result s low) ∙ c.empty-none.ensures.has p
