use Rattle.std.proofs.Common.{subst}
use Rattle.cab_book.specs.declared.control.Control.{Control}
use Rattle.cab_book.specs.Controls.{ControlStands}
use Rattle.cab_book.proofs.control.Control.tick.Goals as goal

pub returns-in-Registers-clause-decided : goal.returns-in-Registers-clause-decided
returns-in-Registers-clause-decided c = λ h k. c.tick.ensures.decided h (subst (λ (x : Control). ControlStands x h) c.in-Registers.is k)

pub returns-in-Registers-clause-stands : goal.returns-in-Registers-clause-stands
returns-in-Registers-clause-stands c = λ h k. c.tick.ensures.stands h (subst (λ (x : Control). ControlStands x h) c.in-Registers.is k)

pub returns-in-LookingBack-clause-decided : goal.returns-in-LookingBack-clause-decided
returns-in-LookingBack-clause-decided c = λ h k. c.tick-in-LookingBack.ensures.decided h (subst (λ (x : Control). ControlStands x h) c.in-LookingBack.is k)

pub returns-in-LookingBack-clause-stands : goal.returns-in-LookingBack-clause-stands
returns-in-LookingBack-clause-stands c = λ h k. c.tick-in-LookingBack.ensures.stands h (subst (λ (x : Control). ControlStands x h) c.in-LookingBack.is k)
