use Rattle.std.proofs.Common.{sym, ◌∙◌}
use Rattle.look_back.proofs.Looks.{look-some, look-none}
use Rattle.look_back.proofs.frame_runs.FrameRuns.look.Goals as goal

pub returns-then-tells : goal.returns-then-tells
returns-then-tells c = λ past keeps.
    let told = look-some c.args.self.now c.args.look c.args.most past c.requires.phase c.requires.within keeps (sym c.tells.ensures ∙ c.if-tells.true) in
    cc

pub returns-else-tells : goal.returns-else-tells
returns-else-tells c = λ past keeps.
    look-none c.args.self.now c.args.look c.args.most past c.requires.phase c.requires.within keeps (sym c.tells.ensures ∙ c.if-tells.false)
