use Rattle.std.proofs.Common.{◌∙◌}
use Rattle.look_back.proofs.Lasts.{now-none, now-passes, now-fails}
use Rattle.look_back.proofs.row.Row.lasts_now.Goals as goal

pub returns-then-frames-eq0 : goal.returns-then-frames-eq0
returns-then-frames-eq0 c = λ test past stands. now-none c.args.frames c.args.now test past c.if-frames-eq0.true

pub returns-then-now : goal.returns-then-now
returns-then-now c = λ test past stands.
    c.lasts.ensures test past stands ∙ now-passes c.args.frames c.args.now test past c.if-frames-eq0.false c.if-now.true

pub returns-else-now : goal.returns-else-now
returns-else-now c = λ test past stands. now-fails c.args.frames c.args.now test past c.if-frames-eq0.false c.if-now.false
