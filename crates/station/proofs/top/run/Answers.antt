use Rattle.std.proofs.Common.{inr, Err, refl, sym, ap, subst}
use Rattle.scenario_data.specs.Content.{scenario_content}
use Rattle.scenario_data.specs.declared.refusal.Refusal.{Refusal}
use Rattle.station.specs.Io.{Io, io_of}
use Rattle.station.specs.Answers.{RunAnswer}
use Rattle.station.specs.declared.status.Status.TheVariants.{Done, Scenario, WriteFault, NoMemory}
use Rattle.station.proofs.Due.{run_answer}
use Rattle.station.proofs.top.run.Goals as goal

pub returns-in-Err-Refused-clause-answered : goal.returns-in-Err-Refused-clause-answered
returns-in-Err-Refused-clause-answered g c =
    let used : Io = io_of g.S.Source.left g.S.Source.faults g.K.Sink.written g.K.Sink.faults c.args.source.now c.read_scenario.new.source c.args.sink.now c.args.sink.now in
    subst (λ (r : Refusal). RunAnswer c.args.crew.now.workers (Scenario r) used) (sym c.in-Err-Refused.refusal-is)
    (run_answer c.args.crew.now.workers (Scenario c.in-Err-Refused.refusal) used.left used.ends used.unread used.old used.new used.unwritten
    (c.in-Err-Refused.ensures.refused c.in-Err-Refused.refusal (ap Err c.in-Err-Refused.field-0-is), refl))

pub returns-in-Ok-write_trace-clause-answered : goal.returns-in-Ok-write_trace-clause-answered
returns-in-Ok-write_trace-clause-answered g c =
    let s = scenario_content c.in-Ok.scenario in
    let so = c.in-Ok-write_trace.ensures in
    run_answer c.args.crew.now.workers Done _ _ _ _ _ _ (record {
      scenario = s;
      journals = so.journals;
      brought = so.brought;
      input = c.in-Ok.ensures.scenario;
      ended = c.in-Ok.ensures.ended;
      written = so.holds.whole;
      kept = c.run_texts_are_safe.ensures.tells s c.in-Ok.ensures.runnable so.journals so.brought.any;
    })

pub returns-in-Ok-write_trace-clause-reads : goal.returns-in-Ok-write_trace-clause-reads
returns-in-Ok-write_trace-clause-reads g c = record { kept = c.in-Ok.ensures.kept; done = λ done. c.in-Ok.ensures.exact }

pub returns-in-Ok-write_trace-clause-writes : goal.returns-in-Ok-write_trace-clause-writes
returns-in-Ok-write_trace-clause-writes g c = record { kept = c.in-Ok-write_trace.ensures.holds.kept; done = λ done. c.in-Ok-write_trace.ensures.holds.counts }

pub returns-in-Err-WriteFault-clause-answered : goal.returns-in-Err-WriteFault-clause-answered
returns-in-Err-WriteFault-clause-answered g c =
    let so = c.in-Err-WriteFault.ensures in
    run_answer c.args.crew.now.workers WriteFault _ _ _ _ _ _ (
      so.holds.fault (ap Err c.in-Err-WriteFault.field-0-is),
      record {
        scenario = scenario_content c.in-Ok.scenario;
        journals = so.journals;
        brought = so.brought;
        input = c.in-Ok.ensures.scenario;
        ended = c.in-Ok.ensures.ended;
        front = so.holds.front;
        closed = so.closed;
        goes_on = so.goes_on;
        within = so.of_closed.up_to;
      },
    )

pub returns-in-Err-WriteFault-clause-writes : goal.returns-in-Err-WriteFault-clause-writes
returns-in-Err-WriteFault-clause-writes g c = record { kept = c.in-Err-WriteFault.ensures.holds.kept; done = λ e. absurd (cc) }

pub returns-clause-answered : goal.returns-clause-answered
returns-clause-answered g c =
    let so = c.in-Err-NoMemory-write_trace.ensures in
    run_answer c.args.crew.now.workers NoMemory _ _ _ _ _ _ (inr (record {
      scenario = scenario_content c.in-Ok.scenario;
      journals = so.journals;
      brought = so.brought;
      input = c.in-Ok.ensures.scenario;
      ended = c.in-Ok.ensures.ended;
      front = so.holds.front;
      closed = so.closed;
      goes_on = so.goes_on;
      within = so.of_closed.up_to;
    }))

pub returns-clause-writes : goal.returns-clause-writes
returns-clause-writes g c = record { kept = c.in-Err-NoMemory-write_trace.ensures.holds.kept; done = λ e. absurd (cc) }
