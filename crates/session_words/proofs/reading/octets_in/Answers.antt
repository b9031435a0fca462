use Rattle.session_words.proofs.Octets.{octets_of-long}
use Rattle.session_words.proofs.reading.octets_in.Goals as goal

pub returns-then-count-gt1472 : goal.returns-then-count-gt1472
returns-then-count-gt1472 c = octets_of-long _ c.if-count-gt1472.true
