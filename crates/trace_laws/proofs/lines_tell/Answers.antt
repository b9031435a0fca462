use Rattle.trace_laws.proofs.Texts.{lines-tell}
use Rattle.trace_laws.proofs.lines_tell.Goals as goal

pub returns : goal.returns
returns c = lines-tell
