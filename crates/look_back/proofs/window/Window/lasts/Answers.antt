use Rattle.look_back.specs.Look.{is_so}
use Rattle.look_back.proofs.Lasts.{lasts-reached}
use Rattle.look_back.proofs.window.Window.lasts.Goals as goal

pub returns : goal.returns
returns c = λ past stands. rw (c.look.ensures past stands) (lasts-reached c.args.frames (is_so c.args.look) past)
