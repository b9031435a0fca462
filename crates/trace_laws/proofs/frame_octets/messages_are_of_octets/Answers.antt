use Rattle.trace_laws.proofs.OctetTexts.{shortest-frame}
use Rattle.trace_laws.proofs.Read.{message-read}
use Rattle.trace_laws.proofs.frame_octets.messages_are_of_octets.Goals as goal

pub returns-clause-read : goal.returns-clause-read
returns-clause-read c = λ text m all is. (message-read text m all is).0

pub returns-clause-written : goal.returns-clause-written
returns-clause-written c = shortest-frame
