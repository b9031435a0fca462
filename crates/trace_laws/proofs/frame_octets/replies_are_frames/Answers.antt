use Rattle.trace_laws.proofs.Tables.{opening-holds}
use Rattle.trace_laws.proofs.OctetCabinetHistories.{cabinet_history-holds}
use Rattle.trace_laws.proofs.Replies.{reply-frame}
use Rattle.trace_laws.proofs.frame_octets.replies_are_frames.Goals as goal

pub returns-clause-replies : goal.returns-clause-replies
returns-clause-replies c = λ cabinet_history t d octets opens holds all own. reply-frame cabinet_history octets (cabinet_history-holds cabinet_history t d opens holds all) own

pub returns-clause-opened : goal.returns-clause-opened
returns-clause-opened c = opening-holds
