use Rattle.sig_types.specs.Phases.{first}
use Rattle.sig_tables.specs.Sides.{ring_phases}
use Rattle.sig_tables.specs.View.{can_begin}
use Rattle.sig_tables.specs.Moves.{can_join}
use Rattle.ring_barrier.proofs.Entering.{able-zero, or-else-first, or-else-second}
use Rattle.ring_barrier.proofs.beginning.entering_in.Goals as goal

pub returns-then-called-ne0 : goal.returns-then-called-ne0
returns-then-called-ne0 c = λ w s.
    or-else-first (can_begin w) (ring_phases w.tables w.sequence c.args.head c.args.ring)
    (first (can_join w) (ring_phases w.tables w.sequence c.args.head c.args.ring)) c.first_in_side-called.result (able-zero w)
    (c.first_in_side-called.ensures w.tables w.sequence c.args.head s.rings.laid s.ordered (c.side_of-side.ensures w.tables s.rings.laid)
    (can_begin w) (c.beginners.ensures w s))
    c.if-called-ne0.true

pub returns-else-called-ne0 : goal.returns-else-called-ne0
returns-else-called-ne0 c = λ w s.
    or-else-second (can_begin w) (ring_phases w.tables w.sequence c.args.head c.args.ring)
    (first (can_join w) (ring_phases w.tables w.sequence c.args.head c.args.ring)) c.first_in_side-called.result c.first_in_side.result
    (able-zero w)
    (c.first_in_side-called.ensures w.tables w.sequence c.args.head s.rings.laid s.ordered (c.side_of-side.ensures w.tables s.rings.laid)
    (can_begin w) (c.beginners.ensures w s))
    c.if-called-ne0.false
    (c.first_in_side.ensures w.tables w.sequence c.args.head s.rings.laid s.ordered (c.side_of-side.ensures w.tables s.rings.laid)
    (can_join w) s.joining)
