use Rattle.std.proofs.Common.{sym, ◌∙◌}
use Rattle.call_store.proofs.Begins.{at-rest, at-startup, after-startup}
use Rattle.call_store.proofs.crossing.asked_at_green.Goals as goal

pub returns-in-Rest : goal.returns-in-Rest
returns-in-Rest c = λ crossing l k e p is.
    c.empty.ensures.has p ∙ at-rest crossing.ring_turn crossing.tables crossing.pedestrian p (sym e ∙ c.in-Rest.is)

pub returns-in-StartUp : goal.returns-in-StartUp
returns-in-StartUp c = λ crossing l k e p is.
    c.union.ensures.has p
    ∙ rw (c.union-asked.ensures.has p, k p is, l.pedestrian_recall p is, l.starts_with_walk p is)
    (at-startup crossing.ring_turn crossing.tables crossing.pedestrian p (sym e ∙ c.in-StartUp.is))

pub returns-in-Rings : goal.returns-in-Rings
returns-in-Rings c = λ crossing l k e p is.
    c.union-asked.ensures.has p
    ∙ rw (k p is, l.pedestrian_recall p is) (after-startup crossing.ring_turn crossing.tables crossing.pedestrian p (sym e ∙ c.in-Rings.is))
