use Rattle.sig_tables.specs.Decide.{frames}
use Rattle.overlap_run.proofs.Frames.{history-frames, written-told, versions-counted}
use Rattle.overlap_run.proofs.coverage.histories_give_frames.Goals as goal

pub returns-clause-frames : goal.returns-clause-frames
returns-clause-frames c = history-frames

pub returns-clause-told : goal.returns-clause-told
returns-clause-told c = λ h has_line. written-told has_line (frames h)

pub returns-clause-versions : goal.returns-clause-versions
returns-clause-versions c = versions-counted
