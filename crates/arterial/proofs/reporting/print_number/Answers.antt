use Rattle.std.proofs.Common.{List, ℕ, decimal, subst}
use Rattle.arterial.specs.Prints.{Prints}
use Rattle.arterial.proofs.Printing.{prints-then}
use Rattle.arterial.proofs.reporting.print_number.Goals as goal

pub returns : goal.returns
returns g c =
    prints-then g.K.Sink.written g.K.Sink.faults c.print-2.result _ _ _ c.args.words.now (decimal c.args.n) c.in-Ok.ensures
    (subst (λ (x : List ℕ). Prints g.K.Sink.written g.K.Sink.faults c.print-2.result c.print.new.sink c.print-2.new.sink x) c.format.ensures.text c.print-2.ensures)
