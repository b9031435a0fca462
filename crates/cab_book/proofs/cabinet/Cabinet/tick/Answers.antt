use Rattle.std.proofs.Common.{◌∙◌, ◌+◌, arith, sym, ap, Bool, [], ◌∷◌, if◌then◌else◌}
use Rattle.std.specs.Coded.{le_prop}
use Rattle.std.proofs.Math.Logic.{∥∥₁_elim}
use Rattle.cabinet_history.specs.Coming.{history_of}
use Rattle.cab_book.proofs.Ticking.{tick-stands, line-written}
use Rattle.cab_book.proofs.cabinet.Cabinet.tick.Goals as goal

pub tick-next-requires : goal.tick-next-requires
tick-next-requires c = record { few = ∥∥₁_elim c.requires.some le_prop (λ some. omega (arith, some.1.keeps.counted, c.requires.few)) }

pub returns-then-has_line-clause-gives : goal.returns-then-has_line-clause-gives
returns-then-has_line-clause-gives c = λ cabinet_history is.
    let shown = line-written c.args.self.now c.frame-last.result c.tick-next.result c.has_line.result (history_of cabinet_history)
    (c.frame-last.ensures.frame (history_of cabinet_history) is.keeps.control) (c.tick-next.ensures.decided (history_of cabinet_history) is.keeps.control)
    c.has_line.ensures is.keeps.sound.ticks in
    ap (λ (b : Bool). if b then (c.args.self.now.ticks + 1, c.tick-next.result) ∷ [] else []) (sym c.if-has_line.true) ∙ shown

pub returns-then-has_line-clause-stands : goal.returns-then-has_line-clause-stands
returns-then-has_line-clause-stands c = λ cabinet_history is.
    tick-stands c.args.self.now c.tick-next.new.self cabinet_history is (c.tick-next.ensures.stands (history_of cabinet_history) is.keeps.control) c.tick-next.ensures.counted

pub returns-else-has_line-clause-gives : goal.returns-else-has_line-clause-gives
returns-else-has_line-clause-gives c = λ cabinet_history is.
    let shown = line-written c.args.self.now c.frame-last.result c.tick-next.result c.has_line.result (history_of cabinet_history)
    (c.frame-last.ensures.frame (history_of cabinet_history) is.keeps.control) (c.tick-next.ensures.decided (history_of cabinet_history) is.keeps.control)
    c.has_line.ensures is.keeps.sound.ticks in
    ap (λ (b : Bool). if b then (c.args.self.now.ticks + 1, c.tick-next.result) ∷ [] else []) (sym c.if-has_line.false) ∙ shown

pub returns-else-has_line-clause-stands : goal.returns-else-has_line-clause-stands
returns-else-has_line-clause-stands c = λ cabinet_history is.
    tick-stands c.args.self.now c.tick-next.new.self cabinet_history is (c.tick-next.ensures.stands (history_of cabinet_history) is.keeps.control) c.tick-next.ensures.counted
