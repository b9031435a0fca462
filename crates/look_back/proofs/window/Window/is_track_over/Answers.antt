use Rattle.std.proofs.Common.{refl, ◌∙◌}
use Rattle.look_back.proofs.window.Window.is_track_over.Goals as goal

pub returns : goal.returns
returns c = λ t past stands time. c.lasts.ensures past stands ∙ rw (c.stage_time.ensures.time, time) refl
