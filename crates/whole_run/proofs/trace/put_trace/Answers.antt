use Rattle.std.proofs.Common.{List, [], ℕ, Ok, Err, subst}
use Rattle.trace_text.specs.Line.{line_text}
use Rattle.trace_text.specs.declared.lines.Line.TheVariants.{S}
use Rattle.safety_laws.specs.TraceText.{lines_text}
use Rattle.scenario_data.specs.Content.{scenario_content}
use Rattle.run_definition.specs.Orders.{serial_journals}
use Rattle.run_definition.specs.Lines.{front_lines, rest_lines}
use Rattle.trace_writer.specs.Handing.{HandsOver}
use Rattle.trace_writer.proofs.Handed.{hands-first, hands-then, within-first, within-then}
use Rattle.whole_run.proofs.Orders.{serial-brought, none-closed}
use Rattle.whole_run.proofs.trace.put_trace.Goals as goal

pub returns-in-Err : goal.returns-in-Err
returns-in-Err g c =
    let s = scenario_content c.args.s.now in
    let one : HandsOver g.K.Sink.written g.K.Sink.faults g.K.Sink.counts_exactly (Err c.in-Err.stop) c.args.writer.now c.put_scenario.new.self c.args.sink.now c.put_scenario.new.sink (line_text (S s.compact)) =
    subst (λ (x : List ℕ). HandsOver g.K.Sink.written g.K.Sink.faults g.K.Sink.counts_exactly (Err c.in-Err.stop) c.args.writer.now c.put_scenario.new.self c.args.sink.now c.put_scenario.new.sink (line_text (S x)))
    c.as_slice.ensures.value c.in-Err.ensures in
    record {
      journals = serial_journals s;
      brought = serial-brought c.args.crew.now.workers s;
      closed = [];
      goes_on = none-closed s;
      holds = hands-first g.K.Sink.written g.K.Sink.faults g.K.Sink.counts_exactly _ _ _ _ (line_text (S s.compact)) (lines_text (rest_lines s (serial_journals s))) one;
      of_closed = within-first g.K.Sink.written g.K.Sink.faults g.K.Sink.counts_exactly _ _ _ _ s.rounds (line_text (S s.compact)) (lines_text (front_lines s [])) one;
    }

pub returns : goal.returns
returns g c =
    let s = scenario_content c.args.s.now in
    let so = c.put_rest.ensures in
    let one : HandsOver g.K.Sink.written g.K.Sink.faults g.K.Sink.counts_exactly (Ok c.in-Ok.field-0) c.args.writer.now c.put_scenario.new.self c.args.sink.now c.put_scenario.new.sink (line_text (S s.compact)) =
    subst (λ (x : List ℕ). HandsOver g.K.Sink.written g.K.Sink.faults g.K.Sink.counts_exactly (Ok c.in-Ok.field-0) c.args.writer.now c.put_scenario.new.self c.args.sink.now c.put_scenario.new.sink (line_text (S x)))
    c.as_slice.ensures.value c.in-Ok.ensures in
    record {
      journals = so.journals;
      brought = so.brought;
      closed = so.closed;
      goes_on = so.goes_on;
      holds = hands-then g.K.Sink.written g.K.Sink.faults g.K.Sink.counts_exactly _ _ _ _ _ _ _ (line_text (S s.compact)) (lines_text (rest_lines s so.journals)) one so.holds;
      of_closed = within-then g.K.Sink.written g.K.Sink.faults g.K.Sink.counts_exactly _ _ _ _ _ _ so.goes_on.left (line_text (S s.compact)) (lines_text (front_lines s so.closed)) one so.of_closed;
    }
