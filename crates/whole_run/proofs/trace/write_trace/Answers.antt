use Rattle.std.proofs.Common.{[]}
use Rattle.scenario_data.specs.Content.{scenario_content}
use Rattle.run_definition.specs.Orders.{serial_journals}
use Rattle.trace_writer.proofs.Handed.{writes-all, writes-front, writes-none, wrote-all, wrote-within, wrote-none}
use Rattle.whole_run.specs.Orders.{closed_text}
use Rattle.whole_run.proofs.Orders.{serial-brought, none-closed}
use Rattle.whole_run.proofs.WholeText.{trace_some}
use Rattle.whole_run.proofs.trace.write_trace.Goals as goal

pub returns-in-Err : goal.returns-in-Err
returns-in-Err g c =
    let s = scenario_content c.args.s.now in
    record {
      journals = serial_journals s;
      brought = serial-brought c.args.crew.now.workers s;
      closed = [];
      goes_on = none-closed s;
      of_closed = wrote-none g.K.Sink.written g.K.Sink.faults g.K.Sink.counts_exactly c.args.sink.now s.rounds (closed_text s []);
      holds = writes-none g.K.Sink.written g.K.Sink.faults g.K.Sink.counts_exactly _ _ (trace_some s (serial_journals s));
    }

pub returns-in-Err-put_trace : goal.returns-in-Err-put_trace
returns-in-Err-put_trace g c =
    let so = c.in-Err-put_trace.ensures in
    record {
      journals = so.journals;
      brought = so.brought;
      closed = so.closed;
      goes_on = so.goes_on;
      of_closed = wrote-within g.K.Sink.written g.K.Sink.faults g.K.Sink.counts_exactly _ _ _ so.goes_on.left (closed_text (scenario_content c.args.s.now) so.closed) c.in-Ok.ensures so.of_closed;
      holds = writes-front g.K.Sink.written g.K.Sink.faults g.K.Sink.counts_exactly _ _ _ _ _ c.in-Ok.ensures so.holds;
    }

pub returns : goal.returns
returns g c =
    let so = c.in-Ok-put_trace.ensures in
    record {
      journals = so.journals;
      brought = so.brought;
      closed = so.closed;
      goes_on = so.goes_on;
      of_closed = wrote-all g.K.Sink.written g.K.Sink.faults g.K.Sink.counts_exactly c.finish.result _ _ so.goes_on.left (closed_text (scenario_content c.args.s.now) so.closed) so.of_closed.none;
      holds = writes-all g.K.Sink.written g.K.Sink.faults g.K.Sink.counts_exactly _ _ _ _ _ _ _ c.in-Ok.ensures so.holds c.finish.ensures;
    }
