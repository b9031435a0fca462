use Rattle.trace_text.specs.Line.{line_text}
use Rattle.trace_text.specs.declared.lines.Line.TheVariants.{J}
use Rattle.trace_text.proofs.Ends.{some_text}
use Rattle.trace_writer.proofs.Handed.{hands-none}
use Rattle.trace_writer.proofs.writer.Writer.put_journal.Goals as goal

pub returns-in-Err : goal.returns-in-Err
returns-in-Err g c = hands-none g.K.Sink.written g.K.Sink.faults g.K.Sink.counts_exactly _ _ (line_text (J c.args.cab c.args.runs.now)) (some_text (J c.args.cab c.args.runs.now))
