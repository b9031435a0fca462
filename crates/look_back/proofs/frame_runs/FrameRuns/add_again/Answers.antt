use Rattle.std.proofs.Common.{◌≡◌, ◌-◌, ◌++◌, suc, length, sym, subst, arith}
use Rattle.look_back.specs.declared.frame_runs.FrameRuns.{FrameRuns}
use Rattle.look_back.specs.FrameRunsKeep.{FrameRunsKeep}
use Rattle.look_back.proofs.Again.{keeps-again}
use Rattle.look_back.proofs.frame_runs.FrameRuns.add_again.Goals as goal

pub returns-clause-keeps : goal.returns-clause-keeps
returns-clause-keeps c = λ past ms keeps few all.
    let more : length ms ≡ suc (c.args.ticks - 1) = omega (arith, few, c.requires) in
    subst (λ (s : FrameRuns). FrameRunsKeep s (ms ++ past)) (sym c.lengthen.ensures)
    (keeps-again _ c.args.sample past c.add.ensures.newest (λ m tells. c.add.ensures.keeps past m keeps tells) (c.args.ticks - 1) ms more all)
