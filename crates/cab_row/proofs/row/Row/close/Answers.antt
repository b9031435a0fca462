use Rattle.std.proofs.Common.{sym, ap, ◌∙◌}
use Rattle.atomic_table.proofs.Lists.{at_map}
use lib.ListN.{get_elem?}
use Rattle.std.specs.Slots.{slots_items}
use Rattle.cab_row.specs.Passes.{books_of}
use Rattle.cab_row.proofs.Ends.{closes}
use Rattle.cab_row.proofs.Closes.{at_inside, merged}
use Rattle.cab_row.proofs.row.Row.close.Goals as goal

pub taken-requires-clause-full : goal.taken-requires-clause-full
taken-requires-clause-full g c = let L = g.B.Logged in let row = c.args.self in let seat = c.gather-seat.result in
    let xs = slots_items c.close_with.result.slots in
    let t = closes g.row.B.coded.code L.journal L.left_of L.replays (books_of row) row.table.shared.key.passes seat.id seat.me.0 _ xs c.close_with.ensures.values.2 c.gather-seat.ensures.view.0 (c.gather-seat.ensures.view.1 ∙ sym row.sized.2) in (
      c.close_with.ensures.values.1,
      t.0 ∙ (sym row.sized.1 ∙ sym c.close_with.ensures.counts.1),
    )

pub returns-clause-books : goal.returns-clause-books
returns-clause-books g c = let L = g.B.Logged in let row = c.args.self in let seat = c.gather-seat.result in
    let xs = slots_items c.close_with.result.slots in
    let t = closes g.row.B.coded.code L.journal L.left_of L.replays (books_of row) row.table.shared.key.passes seat.id seat.me.0 _ xs c.close_with.ensures.values.2 c.gather-seat.ensures.view.0 (c.gather-seat.ensures.view.1 ∙ sym row.sized.2) in
    λ k first there. let u = t.2 k (at_inside (books_of row) k first there) in let since = u.2 first (at_map g.row.B.coded.code (books_of row) k first there) in (
      u.0,
      ap (λ l. get_elem? l k) c.taken.ensures.books ∙ u.1,
      merged g.row.B.coded.code L.journal L.left_of L.replays row c.args.passes.items seat.me.0 k first u.0 c.requires.passes.0 c.gather-seat.ensures.view.2 t.1 since.0 since.1 u.3,
    )
