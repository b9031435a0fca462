use Rattle.overlap_run.proofs.Texts.{same-text}
use Rattle.overlap_run.proofs.coverage.frames_give_the_text.Goals as goal

pub returns : goal.returns
returns c = same-text
