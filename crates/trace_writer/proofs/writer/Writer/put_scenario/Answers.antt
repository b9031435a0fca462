use Rattle.trace_writer.proofs.ScenarioLine.{line-first, line-second, line-whole}
use Rattle.trace_writer.proofs.writer.Writer.put_scenario.Goals as goal

pub returns-in-Err : goal.returns-in-Err
returns-in-Err g c = line-first g.K.Sink.written g.K.Sink.faults g.K.Sink.counts_exactly _ _ _ _ c.args.compact.now c.in-Err.ensures

pub returns-in-Err-put : goal.returns-in-Err-put
returns-in-Err-put g c = line-second g.K.Sink.written g.K.Sink.faults g.K.Sink.counts_exactly _ _ _ _ _ _ c.args.compact.now c.in-Ok.ensures c.in-Err-put.ensures

pub returns : goal.returns
returns g c = line-whole g.K.Sink.written g.K.Sink.faults g.K.Sink.counts_exactly _ _ _ _ _ _ _ _ _ c.args.compact.now c.in-Ok.ensures c.in-Ok-put.ensures c.put-3.ensures
