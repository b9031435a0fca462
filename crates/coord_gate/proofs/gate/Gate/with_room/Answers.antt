use Rattle.std.proofs.Common.{◌≡◌, ◌∙◌, ◌+◌, ◌-◌, ◌<◌, ◌≤◌, nat_le, get_or, subst}
use Rattle.sig_types.specs.PhaseSet.{has}
use Rattle.sig_tables.specs.declared.plan.Plan.{Plan}
use Rattle.sig_tables.specs.Slots.{is_coordinated, window}
use Rattle.sig_tables.specs.Coordinating.{fits}
use Rattle.coord_gate.proofs.Plans.{force-at, too-early, opened, room-shut, room-open}
use Rattle.coord_gate.proofs.gate.Gate.with_room.Goals as goal

pub returns-then-counter-self : goal.returns-then-counter-self
returns-then-counter-self c = λ t n g p is. c.meet-held.ensures.has p ∙ rw (g.coordinated p is)
    (room-shut (has c.args.among p) (is_coordinated t n p) (fits t n c.args.counter c.args.k p)
    (too-early _ (window t n) c.args.counter (subst (λ (x : Plan). c.args.counter < x.window) g.plan c.if-counter-self.true)))

pub returns : goal.returns
returns c = λ t n g p is.
    let before : window t n ≤ c.args.counter = subst (λ (x : Plan). x.window ≤ c.args.counter) g.plan c.if-counter-self.false in
    let fits_then : nat_le (c.from.result + c.from-2.result + get_or c.args.self.now.services.now (p - 1) 0) (get_or c.args.self.now.plan.now.force (p - 1) 0)
    ≡ fits t n c.args.counter c.args.k p =
    rw (c.from.ensures, c.from-2.ensures, g.services p is, force-at c.args.self.now.plan.now t n p g.plan is)
    (opened _ (window t n) c.args.counter before) in
    c.union.ensures.has p
    ∙ rw (c.meet-held.ensures.has p, c.in_time.ensures p is, c.others.ensures p is, g.coordinated p is)
    (room-open (has c.args.among p) (is_coordinated t n p) _ (fits t n c.args.counter c.args.k p) fits_then)
