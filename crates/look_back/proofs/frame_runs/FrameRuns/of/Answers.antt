use Rattle.std.proofs.Common.{refl}
use Rattle.look_back.proofs.Adding.{none-kept}
use Rattle.look_back.proofs.frame_runs.FrameRuns.of.Goals as goal

pub returns-clause-keeps : goal.returns-clause-keeps
returns-clause-keeps c = none-kept _ refl c.requires
