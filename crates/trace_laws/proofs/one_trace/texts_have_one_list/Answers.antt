use Rattle.trace_laws.proofs.SameTexts.{same_lines}
use Rattle.trace_laws.proofs.one_trace.texts_have_one_list.Goals as goal

pub returns : goal.returns
returns c = same_lines
