use Rattle.std.proofs.Common.{Ok, Err, ℕ, List, [], ◌∷◌, ◌++◌, codes, decimal, subst}
use Rattle.arterial.specs.Prints.{Prints}
use Rattle.arterial.specs.Report.{number_then}
use Rattle.arterial.proofs.Printing.{prints-first, prints-then}
use Rattle.arterial.proofs.reporting.print_broken.Goals as goal

-- what comes after the cabinet
abbrev behind : ℕ → ℕ → List ℕ
behind rule row = number_then (codes " breaks rule ") rule (number_then (codes " at row ") row (10 ∷ []))

pub returns-in-Err : goal.returns-in-Err
returns-in-Err g c =
    prints-first g.K.Sink.written g.K.Sink.faults _ _ (codes "scenario: cabinet " ++ decimal c.args.cab) (behind c.args.rule c.args.row)
    (subst (λ (n : ℕ). Prints g.K.Sink.written g.K.Sink.faults (Err c.in-Err.field-0) c.args.sink.now c.print_number.new.sink (codes "scenario: cabinet " ++ decimal n)) c.from.ensures c.in-Err.ensures)

pub returns : goal.returns
returns g c =
    let rule = subst (λ (n : ℕ). Prints g.K.Sink.written g.K.Sink.faults c.print_two.result c.print_number.new.sink c.print_two.new.sink (behind n c.from-3.result)) c.from-2.ensures c.print_two.ensures in
    let row = subst (λ (n : ℕ). Prints g.K.Sink.written g.K.Sink.faults c.print_two.result c.print_number.new.sink c.print_two.new.sink (behind c.args.rule n)) c.from-3.ensures rule in
    prints-then g.K.Sink.written g.K.Sink.faults c.print_two.result _ _ _ (codes "scenario: cabinet " ++ decimal c.args.cab) (behind c.args.rule c.args.row)
    (subst (λ (n : ℕ). Prints g.K.Sink.written g.K.Sink.faults (Ok c.in-Ok.field-0) c.args.sink.now c.print_number.new.sink (codes "scenario: cabinet " ++ decimal n)) c.from.ensures c.in-Ok.ensures) row
