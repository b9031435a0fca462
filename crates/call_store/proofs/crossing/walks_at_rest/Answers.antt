use Rattle.std.proofs.Common.{◌∙◌, ◌||◌, Some}
use Rattle.sig_types.specs.Phases.{is_in}
use Rattle.sig_tables.specs.Slots.{is_coordinated}
use Rattle.sig_tables.specs.Splits.{keeps_walk}
use Rattle.sig_tables.specs.Walking.{has_walk}
use Rattle.call_store.proofs.Begins.{in-coord, in-ring_turn, no-rest}
use Rattle.call_store.proofs.crossing.walks_at_rest.Goals as goal

pub returns-in-Some : goal.returns-in-Some
returns-in-Some c = λ crossing l k z says p is o.
    let split = in-coord c.args.options c.args.crosswalks.now.mode crossing.tables c.in-Coord.field-0 c.in-Some.options c.in-Coord.is c.in-Some.is says in
    c.at_zero.ensures p is
    ∙ rw (
      c.meet-held.ensures.has p,
      c.held_with_walk.ensures crossing.tables (is_coordinated crossing.tables c.in-Coord.field-0) l split.coordinated p is,
      c.asked_to_walk-asked.ensures crossing.tables c.in-Coord.field-0 (is_in crossing.pedestrian) l split k p is,
      z,
      c.in-Coord.is,
    )
    (in-ring_turn crossing.is_zero (has_walk crossing.tables p) (is_coordinated crossing.tables c.in-Coord.field-0 p)
    (is_in crossing.pedestrian p || keeps_walk (Some c.in-Coord.field-0) crossing.tables p))

pub returns-in_default : goal.returns-in_default
returns-in_default c = λ crossing l k z says p is o.
    c.empty-in_default.ensures.has p ∙ no-rest crossing c.args.crosswalks.now.mode p c.in_default.not-Free c.in_default.not-Coord
