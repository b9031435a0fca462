use Rattle.std.proofs.Common.{◌∙◌, sym, arith}
use Rattle.rule_book.specs.RingLayout.{has_two_sides}
use Rattle.rule_book.specs.Sets.{has_another_side}
use Rattle.rule_book.proofs.Loops.{some-next, some-found, some-none}
use Rattle.rule_book.proofs.ring_layout.RingLayout.has_two_sides.Goals as goal

pub returns-then-has_another_side : goal.returns-then-has_another_side
returns-then-has_another_side c = λ t reads.
    some-found (has_another_side t) c.loop-phase.phase (has_two_sides t) (omega arith) (omega arith)
    (sym (c.has_another_side.ensures t reads) ∙ c.if-has_another_side.true) (c.loop-phase.invariant t reads)

pub loop-phase-preserved : goal.loop-phase-preserved
loop-phase-preserved c = λ t reads.
    some-next (has_another_side t) c.loop-phase.phase (has_two_sides t) (omega arith) (omega arith)
    (sym (c.has_another_side.ensures t reads) ∙ c.if-has_another_side.false) (c.loop-phase.invariant t reads)

pub returns : goal.returns
returns c = λ t reads. some-none (has_another_side t) c.loop-phase.phase (has_two_sides t) (omega arith) (c.loop-phase.invariant t reads)
