use Rattle.std.proofs.Common.{◌∙◌}
use Rattle.coord_gate.proofs.Plans.{force-at, not-yet, held-on}
use Rattle.coord_gate.proofs.gate.Gate.released.Goals as goal

pub returns-then-counter-held : goal.returns-then-counter-held
returns-then-counter-held c = λ t n active g held p is.
    c.empty.ensures.has p ∙ rw (← held) (not-yet _ _ c.args.held c.args.counter c.if-counter-held.true)

pub returns : goal.returns
returns c = λ t n active g held p is. c.reached.ensures p is
    ∙ rw (force-at c.args.self.now.plan.now t n p g.plan is, ← held) (held-on _ _ c.args.held c.args.counter c.if-counter-held.false)
