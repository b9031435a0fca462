use Rattle.std.proofs.Common.{◌≡◌, ℕ, List, sym, ap, ◌∙◌, arith}
use Rattle.field_file.specs.Schedule.{section_of, period_of}
use Rattle.field_file.proofs.Counts.{cell-in, cell-out}
use Rattle.field_file.proofs.volumes.count_edge.Goals as goal

pub returns-then-section-lt1-clause-counted : goal.returns-then-section-lt1-clause-counted
returns-then-section-lt1-clause-counted c = λ c' es i sections period within is before.
    let s : section_of c'.sections c.args.edge.cabinet ≡ c.section_of-section.result = ap (λ (x : List ℕ). section_of x c.args.edge.cabinet) sections ∙ sym c.section_of-section.ensures in
    cell-out c.args.table.now.items c' c.args.periods es i c.args.edge within is (λ some few low. omega (arith, some, s)) before

pub returns-then-section-gt8-clause-counted : goal.returns-then-section-gt8-clause-counted
returns-then-section-gt8-clause-counted c = λ c' es i sections period within is before.
    let s : section_of c'.sections c.args.edge.cabinet ≡ c.section_of-section.result = ap (λ (x : List ℕ). section_of x c.args.edge.cabinet) sections ∙ sym c.section_of-section.ensures in
    cell-out c.args.table.now.items c' c.args.periods es i c.args.edge within is (λ some few low. omega (arith, few, s)) before

pub returns-then-n-periods-clause-counted : goal.returns-then-n-periods-clause-counted
returns-then-n-periods-clause-counted c = λ c' es i sections period within is before.
    let n : period_of c'.period c.args.edge.round ≡ c.period_of-n.result = ap (λ (x : ℕ). period_of x c.args.edge.round) period ∙ sym c.period_of-n.ensures in
    cell-out c.args.table.now.items c' c.args.periods es i c.args.edge within is (λ some few low. omega (arith, low, n)) before

pub returns-clause-counted : goal.returns-clause-counted
returns-clause-counted c = λ c' es i sections period within is before.
    let s : c.section_of-section.result ≡ section_of c'.sections c.args.edge.cabinet = c.section_of-section.ensures ∙ ap (λ (x : List ℕ). section_of x c.args.edge.cabinet) (sym sections) in
    let n : c.period_of-n.result ≡ period_of c'.period c.args.edge.round = c.period_of-n.ensures ∙ ap (λ (x : ℕ). period_of x c.args.edge.round) (sym period) in
    cell-in c.args.table.now.items c.add_at.new.table.items c' c.args.periods es i c.args.edge c.section_of-section.result c.period_of-n.result within is s n (omega arith) (omega arith)
    c.add_at.ensures.here c.add_at.ensures.others before
