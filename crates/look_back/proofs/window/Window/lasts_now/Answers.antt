use Rattle.std.proofs.Common.{◌∙◌}
use Rattle.look_back.specs.Look.{is_so}
use Rattle.look_back.proofs.Lasts.{now-none, now-passes, now-fails}
use Rattle.look_back.proofs.window.Window.lasts_now.Goals as goal

pub returns-then-frames-eq0 : goal.returns-then-frames-eq0
returns-then-frames-eq0 c = λ past stands. now-none c.args.frames c.args.now (is_so c.args.look) past c.if-frames-eq0.true

pub returns-then-now : goal.returns-then-now
returns-then-now c = λ past stands.
    c.lasts.ensures past stands ∙ now-passes c.args.frames c.args.now (is_so c.args.look) past c.if-frames-eq0.false c.if-now.true

pub returns-else-now : goal.returns-else-now
returns-else-now c = λ past stands. now-fails c.args.frames c.args.now (is_so c.args.look) past c.if-frames-eq0.false c.if-now.false
