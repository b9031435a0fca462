use Rattle.std.proofs.Common.{◌∙◌, ap}
use Rattle.sig_types.specs.declared.frame.Frame.{Frame}
use Rattle.tick_context.specs.Modes.{is_flash}
use Rattle.engine.proofs.Engine.flashing.Goals as goal

pub returns : goal.returns
returns g c = record { flashing = λ h k. c.is_flash.ensures ∙ ap (λ (f : Frame). is_flash f.mode) k.context.frame }
