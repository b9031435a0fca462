use Rattle.std.proofs.Common.{refl, ◌∙◌}
use Rattle.look_back.proofs.window.Window.has_reverted.Goals as goal

pub returns : goal.returns
returns c = λ past stands. c.lasts.ensures past stands ∙ rw c.red_revert_time.ensures.time refl
