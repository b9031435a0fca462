use Rattle.std.proofs.Common.{subst}
use Rattle.cab_book.specs.declared.control.Control.{Control}
use Rattle.cab_book.specs.Controls.{ControlStands}
use Rattle.cab_book.proofs.control.Control.install.Goals as goal

pub returns-in-Registers-clause-stands : goal.returns-in-Registers-clause-stands
returns-in-Registers-clause-stands c = λ h k. c.install.ensures.stands h (subst (λ (x : Control). ControlStands x h) c.in-Registers.is k)

pub returns-in-LookingBack-clause-stands : goal.returns-in-LookingBack-clause-stands
returns-in-LookingBack-clause-stands c = λ h k. c.install-in-LookingBack.ensures.stands h (subst (λ (x : Control). ControlStands x h) c.in-LookingBack.is k)
