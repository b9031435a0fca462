use Rattle.overlap_run.proofs.Looking.{green-is}
use Rattle.overlap_run.proofs.changes.is_green.Goals as goal

pub returns : goal.returns
returns c = green-is _ _ _ _ _ c.meet.ensures.has c.showing.ensures.shown c.is_empty.ensures.empty
