use Rattle.std.proofs.Common.{refl, sym, ◌∙◌}
use Rattle.call_store.proofs.Begins.{in-coord, no-green, with-green}
use Rattle.call_store.proofs.crossing.walks_with_green.Goals as goal

pub returns-then-not-may_walk : goal.returns-then-not-may_walk
returns-then-not-may_walk c = λ crossing l k e says p is.
    c.empty.ensures.has p ∙ no-green crossing c.args.crosswalks.now.mode p (sym c.may_walk.ensures ∙ c.if-not-may_walk.true)

pub returns-in-Some : goal.returns-in-Some
returns-in-Some c = λ crossing l k e says p is.
    let split = in-coord c.args.options c.args.crosswalks.now.mode crossing.tables c.in-Coord.field-0 c.in-Some.options c.in-Coord.is c.in-Some.is says in
    c.meet.ensures.has p
    ∙ rw (
      c.union.ensures.has p,
      l.walks p is,
      c.asked_at_green-asked.ensures crossing l k e p is,
      split.pedestrian p is,
      c.in-Coord.is,
    ) refl

pub returns-in_default : goal.returns-in_default
returns-in_default c = λ crossing l k e says p is.
    c.meet-in_default.ensures.has p
    ∙ rw (l.walks p is, c.asked_at_green-asked.ensures crossing l k e p is)
    (with-green crossing c.args.crosswalks.now.mode p (sym c.may_walk.ensures ∙ c.if-not-may_walk.false) c.in_default.not-Coord)
