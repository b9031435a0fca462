use Rattle.std.proofs.Common.{List, [], ℕ, Err, subst, sym}
use Rattle.trace_text.specs.Line.{line_text}
use Rattle.trace_text.specs.declared.lines.Line.TheVariants.{Z}
use Rattle.safety_laws.specs.TraceText.{lines_text}
use Rattle.scenario_data.specs.Content.{scenario_content}
use Rattle.run_definition.specs.Orders.{serial_journals}
use Rattle.run_definition.specs.Lines.{front_lines}
use Rattle.trace_writer.specs.Handing.{HandsOver}
use Rattle.trace_writer.proofs.Handed.{hands-first, hands-then, hands-none, within-none, within-all}
use Rattle.whole_run.proofs.Orders.{serial-brought, none-closed}
use Rattle.whole_run.proofs.WholeText.{rest_spelled, rest_some}
use Rattle.whole_run.proofs.trace.put_rest.Goals as goal

pub returns-in-Err : goal.returns-in-Err
returns-in-Err g c =
    let s = scenario_content c.args.s.now in
    record {
      journals = serial_journals s;
      brought = serial-brought c.args.crew.now.workers s;
      closed = [];
      goes_on = none-closed s;
      of_closed = within-none g.K.Sink.written g.K.Sink.faults g.K.Sink.counts_exactly c.args.writer.now c.args.sink.now s.rounds (lines_text (front_lines s []));
      holds = hands-none g.K.Sink.written g.K.Sink.faults g.K.Sink.counts_exactly _ _ _ (rest_some s (serial_journals s));
    }

pub returns-in-Err-put_front : goal.returns-in-Err-put_front
returns-in-Err-put_front g c =
    let s = scenario_content c.args.s.now in
    let so = c.in-Err-put_front.ensures in
    record {
      journals = so.journals;
      brought = so.brought;
      closed = so.closed;
      goes_on = so.goes_on;
      of_closed = so.of_closed;
      holds = subst (λ (x : List ℕ). HandsOver g.K.Sink.written g.K.Sink.faults g.K.Sink.counts_exactly (Err c.in-Err-put_front.stop) c.args.writer.now c.put_front.new.writer c.args.sink.now c.put_front.new.sink x)
          (sym (rest_spelled s so.journals))
          (hands-first g.K.Sink.written g.K.Sink.faults g.K.Sink.counts_exactly _ _ _ _ (lines_text (front_lines s so.journals)) (line_text (Z s.rounds)) so.holds);
    }

pub returns : goal.returns
returns g c =
    let s = scenario_content c.args.s.now in
    let so = c.in-Ok-put_front.ensures in
    record {
      journals = so.journals;
      brought = so.brought;
      closed = so.closed;
      goes_on = so.goes_on;
      of_closed = within-all g.K.Sink.written g.K.Sink.faults g.K.Sink.counts_exactly c.put_line.result c.args.writer.now c.args.sink.now c.put_line.new.sink so.goes_on.left (lines_text (front_lines s so.closed)) so.of_closed.none;
      holds = subst (λ (x : List ℕ). HandsOver g.K.Sink.written g.K.Sink.faults g.K.Sink.counts_exactly c.put_line.result c.args.writer.now c.put_line.new.self c.args.sink.now c.put_line.new.sink x)
          (sym (rest_spelled s so.journals))
          (hands-then g.K.Sink.written g.K.Sink.faults g.K.Sink.counts_exactly _ _ _ _ _ _ _ (lines_text (front_lines s so.journals)) (line_text (Z s.rounds)) so.holds c.put_line.ensures);
    }
