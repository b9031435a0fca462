use Rattle.std.proofs.Common.{◌∙◌}
use Rattle.look_back.proofs.Lasts.{dwelt-is}
use Rattle.look_back.proofs.window.Window.has_dwelt.Goals as goal

pub returns : goal.returns
returns c = λ t past stands time goals.
    c.lasts.ensures past stands ∙ rw (c.stage_time.ensures.time, time) (dwelt-is _ c.args.number c.args.goal.now _ past goals)
