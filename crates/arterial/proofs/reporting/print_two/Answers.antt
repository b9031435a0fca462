use Rattle.std.proofs.Common.{[], ◌∷◌, ◌++◌, decimal}
use Rattle.arterial.specs.Report.{number_then}
use Rattle.arterial.proofs.Printing.{prints-first, prints-then}
use Rattle.arterial.proofs.reporting.print_two.Goals as goal

pub returns-in-Err : goal.returns-in-Err
returns-in-Err g c =
    prints-first g.K.Sink.written g.K.Sink.faults _ _ (c.args.words.now ++ decimal c.args.first) (number_then c.args.between.now c.args.second (10 ∷ [])) c.in-Err.ensures

pub returns-in-Err-print_number : goal.returns-in-Err-print_number
returns-in-Err-print_number g c =
    prints-then g.K.Sink.written g.K.Sink.faults _ _ _ _ (c.args.words.now ++ decimal c.args.first) (number_then c.args.between.now c.args.second (10 ∷ [])) c.in-Ok.ensures
    (prints-first g.K.Sink.written g.K.Sink.faults _ _ (c.args.between.now ++ decimal c.args.second) (10 ∷ []) c.in-Err-print_number.ensures)

pub returns : goal.returns
returns g c =
    prints-then g.K.Sink.written g.K.Sink.faults c.print.result _ _ _ (c.args.words.now ++ decimal c.args.first) (number_then c.args.between.now c.args.second (10 ∷ [])) c.in-Ok.ensures
    (prints-then g.K.Sink.written g.K.Sink.faults c.print.result _ _ _ (c.args.between.now ++ decimal c.args.second) (10 ∷ []) c.in-Ok-print_number.ensures c.print.ensures)
