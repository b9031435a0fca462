use Rattle.std.proofs.Common.{ℕ, List, codes, sym, subst}
use Rattle.scenario_data.specs.declared.refusal.Refusal.{Refusal}
use Rattle.arterial.specs.Prints.{Prints}
use Rattle.arterial.specs.Report.{named_line, refusal_line}
use Rattle.arterial.proofs.reporting.print_refusal.Goals as goal

pub returns-in-Field : goal.returns-in-Field
returns-in-Field g c =
    subst (λ (r : Refusal). Prints g.K.Sink.written g.K.Sink.faults c.print_named.result c.args.sink.now c.print_named.new.sink (refusal_line r)) (sym c.in-Field.is)
    (subst (λ (x : List ℕ). Prints g.K.Sink.written g.K.Sink.faults c.print_named.result c.args.sink.now c.print_named.new.sink (named_line (codes "scenario: field ") x))
    c.as_str.ensures.value c.print_named.ensures)

pub returns-in-Limit : goal.returns-in-Limit
returns-in-Limit g c =
    subst (λ (r : Refusal). Prints g.K.Sink.written g.K.Sink.faults c.print_named-in-Limit.result c.args.sink.now c.print_named-in-Limit.new.sink (refusal_line r)) (sym c.in-Limit.is)
    (subst (λ (x : List ℕ). Prints g.K.Sink.written g.K.Sink.faults c.print_named-in-Limit.result c.args.sink.now c.print_named-in-Limit.new.sink (named_line (codes "scenario: limit ") x))
    c.as_str-in-Limit.ensures.value c.print_named-in-Limit.ensures)

pub returns-in-Broken : goal.returns-in-Broken
returns-in-Broken g c =
    subst (λ (r : Refusal). Prints g.K.Sink.written g.K.Sink.faults c.print_broken.result c.args.sink.now c.print_broken.new.sink (refusal_line r)) (sym c.in-Broken.is) c.print_broken.ensures
