use Rattle.std.proofs.Common.{ℕ, [], ◌∷◌, codes, sym, subst}
use Rattle.station.specs.declared.status.Status.{Status}
use Rattle.arterial.specs.Prints.{Prints}
use Rattle.arterial.specs.Report.{number_then, report_line}
use Rattle.arterial.proofs.reporting.report.Goals as goal

pub returns-in-NotATrace : goal.returns-in-NotATrace
returns-in-NotATrace g c =
    let fault = c.in-NotATrace.fault in
    subst (λ (status : Status). Prints g.K.Sink.written g.K.Sink.faults c.print_two.result c.args.sink.now c.print_two.new.sink (report_line status)) (sym c.in-NotATrace.is)
    (subst (λ (n : ℕ). Prints g.K.Sink.written g.K.Sink.faults c.print_two.result c.args.sink.now c.print_two.new.sink
    (number_then (codes "trace: line ") fault.line (number_then (codes " breaks rule ") n (10 ∷ [])))) c.from-in-NotATrace.ensures
    (subst (λ (n : ℕ). Prints g.K.Sink.written g.K.Sink.faults c.print_two.result c.args.sink.now c.print_two.new.sink
    (number_then (codes "trace: line ") n (number_then (codes " breaks rule ") c.from-in-NotATrace.result (10 ∷ [])))) c.from.ensures c.print_two.ensures))

pub returns-in-NotALog : goal.returns-in-NotALog
returns-in-NotALog g c =
    subst (λ (status : Status). Prints g.K.Sink.written g.K.Sink.faults c.print_fault.result c.args.sink.now c.print_fault.new.sink (report_line status)) (sym c.in-NotALog.is) c.print_fault.ensures

pub returns-in-Overlap : goal.returns-in-Overlap
returns-in-Overlap g c =
    let fault = c.in-Overlap.fault in
    subst (λ (status : Status). Prints g.K.Sink.written g.K.Sink.faults c.print_two-in-Overlap.result c.args.sink.now c.print_two-in-Overlap.new.sink (report_line status)) (sym c.in-Overlap.is)
    (subst (λ (n : ℕ). Prints g.K.Sink.written g.K.Sink.faults c.print_two-in-Overlap.result c.args.sink.now c.print_two-in-Overlap.new.sink
    (number_then (codes "overlap: rule ") fault.rule (number_then (codes " at row ") n (10 ∷ [])))) c.from-in-Overlap-2.ensures
    (subst (λ (n : ℕ). Prints g.K.Sink.written g.K.Sink.faults c.print_two-in-Overlap.result c.args.sink.now c.print_two-in-Overlap.new.sink
    (number_then (codes "overlap: rule ") n (number_then (codes " at row ") c.from-in-Overlap-2.result (10 ∷ [])))) c.from-in-Overlap.ensures c.print_two-in-Overlap.ensures))

pub returns-in-NoMemory : goal.returns-in-NoMemory
returns-in-NoMemory g c =
    subst (λ (status : Status). Prints g.K.Sink.written g.K.Sink.faults c.print-in-NoMemory.result c.args.sink.now c.print-in-NoMemory.new.sink (report_line status)) (sym c.in-NoMemory.is)
    c.print-in-NoMemory.ensures
