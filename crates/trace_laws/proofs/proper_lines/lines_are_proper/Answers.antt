use Rattle.trace_laws.proofs.LineRounds.{run-are}
use Rattle.trace_laws.proofs.proper_lines.lines_are_proper.Goals as goal

pub returns : goal.returns
returns c = λ s run journals are.
    run-are
    (record {
      cabinet_histories = record {
        admitted = c.cabinet_histories_are_admitted.ensures.admitted;
        now = c.tables_stay_in_range.ensures.now;
        judged = c.downloads_end_as_judged.ensures;
      };
      short = c.rounds_are_short.ensures.streams;
    }) s journals run are
