use Rattle.std.proofs.Common.{◌≡◌, ◌∙◌, arith, ap, ℕ, min}
use Rattle.sig_tables.specs.Looking.{start_run}
use Rattle.look_back.proofs.Lasts.{start-row}
use Rattle.look_back.proofs.frame_history.FrameHistory.start_run.Goals as goal

pub returns : goal.returns
returns c = λ past looks few.
    let near : min (start_run past) 61 ≡ start_run past = omega arith in
    c.look.ensures past looks.window ∙ ap (λ (n : ℕ). min n 61) (start-row past) ∙ near
