use Rattle.std.proofs.Common.{subst}
use Rattle.cab_book.specs.declared.control.Control.{Control}
use Rattle.cab_book.specs.Controls.{ControlStands}
use Rattle.cab_book.proofs.control.Control.stride_told.Goals as goal

pub returns-in-Registers-clause-least : goal.returns-in-Registers-clause-least
returns-in-Registers-clause-least c = λ h k. c.stride_told.ensures.least h (subst (λ (x : Control). ControlStands x h) c.in-Registers.is k)

pub returns-in-Registers-clause-told : goal.returns-in-Registers-clause-told
returns-in-Registers-clause-told c = λ h k. c.stride_told.ensures.told h (subst (λ (x : Control). ControlStands x h) c.in-Registers.is k)

pub returns-in-Registers-clause-stands : goal.returns-in-Registers-clause-stands
returns-in-Registers-clause-stands c = λ h k. c.stride_told.ensures.stands h (subst (λ (x : Control). ControlStands x h) c.in-Registers.is k)

pub returns-in-LookingBack-clause-least : goal.returns-in-LookingBack-clause-least
returns-in-LookingBack-clause-least c = λ h k. c.stride_told-in-LookingBack.ensures.least h (subst (λ (x : Control). ControlStands x h) c.in-LookingBack.is k)

pub returns-in-LookingBack-clause-told : goal.returns-in-LookingBack-clause-told
returns-in-LookingBack-clause-told c = λ h k. c.stride_told-in-LookingBack.ensures.told h (subst (λ (x : Control). ControlStands x h) c.in-LookingBack.is k)

pub returns-in-LookingBack-clause-stands : goal.returns-in-LookingBack-clause-stands
returns-in-LookingBack-clause-stands c = λ h k. c.stride_told-in-LookingBack.ensures.stands h (subst (λ (x : Control). ControlStands x h) c.in-LookingBack.is k)
