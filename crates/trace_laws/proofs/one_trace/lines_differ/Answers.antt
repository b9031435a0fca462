use Rattle.trace_laws.proofs.SameLines.{same_line}
use Rattle.trace_laws.proofs.one_trace.lines_differ.Goals as goal

pub returns : goal.returns
returns c = same_line
