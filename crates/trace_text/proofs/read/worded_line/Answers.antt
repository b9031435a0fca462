use Rattle.std.proofs.Common.{sym}
use Rattle.trace_text.proofs.Reading.{ok_then}
use Rattle.trace_text.proofs.Spaces.{reads_text, none_worded}
use Rattle.trace_text.proofs.read.worded_line.Goals as goal

pub returns-in-Some : goal.returns-in-Some
returns-in-Some c = ok_then _ _ (reads_text _ _ (sym c.in-Some.ensures)) _ c.line_of_kind.ensures

pub returns-in-None : goal.returns-in-None
returns-in-None c = none_worded _ (sym c.in-None.ensures)
