use Rattle.std.proofs.Common.{refl, ◌∙◌}
use Rattle.look_back.proofs.window.Window.has_maximum.Goals as goal

pub returns : goal.returns
returns c = λ v stands tables opposed.
    c.lasts_now.ensures v.past stands ∙ rw (← opposed, tables, c.maximum_time.ensures.time) refl
