use Rattle.std.proofs.Common.{[], ◌∷◌, ◌++◌}
use Rattle.arterial.proofs.Printing.{prints-first, prints-then}
use Rattle.arterial.proofs.reporting.print_named.Goals as goal

pub returns-in-Err : goal.returns-in-Err
returns-in-Err g c = prints-first g.K.Sink.written g.K.Sink.faults _ _ c.args.words.now (c.args.name.now ++ 10 ∷ []) c.in-Err.ensures

pub returns-in-Err-print : goal.returns-in-Err-print
returns-in-Err-print g c =
    prints-then g.K.Sink.written g.K.Sink.faults _ _ _ _ c.args.words.now (c.args.name.now ++ 10 ∷ []) c.in-Ok.ensures
    (prints-first g.K.Sink.written g.K.Sink.faults _ _ c.args.name.now (10 ∷ []) c.in-Err-print.ensures)

pub returns : goal.returns
returns g c =
    prints-then g.K.Sink.written g.K.Sink.faults c.print-3.result _ _ _ c.args.words.now (c.args.name.now ++ 10 ∷ []) c.in-Ok.ensures
    (prints-then g.K.Sink.written g.K.Sink.faults c.print-3.result _ _ _ c.args.name.now (10 ∷ []) c.in-Ok-print.ensures c.print-3.ensures)
