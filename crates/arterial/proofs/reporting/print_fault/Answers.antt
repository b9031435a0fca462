use Rattle.std.proofs.Common.{ℕ, List, ◌++◌, codes, decimal, subst}
use Rattle.arterial.specs.Prints.{Prints}
use Rattle.arterial.specs.Report.{words_line, fault_words}
use Rattle.arterial.proofs.Printing.{prints-first, prints-then}
use Rattle.arterial.proofs.reporting.print_fault.Goals as goal

pub returns-in-Err : goal.returns-in-Err
returns-in-Err g c =
    prints-first g.K.Sink.written g.K.Sink.faults _ _ (codes "log: line " ++ decimal c.args.fault.now.line) (words_line (fault_words c.args.fault.now.fault)) c.in-Err.ensures

pub returns : goal.returns
returns g c =
    prints-then g.K.Sink.written g.K.Sink.faults c.print.result _ _ _ (codes "log: line " ++ decimal c.args.fault.now.line) (words_line (fault_words c.args.fault.now.fault)) c.in-Ok.ensures
    (subst (λ (text : List ℕ). Prints g.K.Sink.written g.K.Sink.faults c.print.result c.print_number.new.sink c.print.new.sink text) c.words_of.ensures c.print.ensures)
