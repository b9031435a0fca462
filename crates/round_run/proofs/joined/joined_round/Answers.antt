use Rattle.std.proofs.Common.{◌∙◌, List, sym, subst}
use Rattle.cab_book.specs.declared.book.Book.{Book}
use Rattle.round_run.specs.Joined.{AreShared}
use Rattle.round_run.proofs.Joining.{all-at-once, all-whole, joined-run, joined-ticks}
use Rattle.round_run.proofs.joined.joined_round.Goals as goal

pub returns-then-has_one_order-clause-run : goal.returns-then-has_one_order-clause-run
returns-then-has_one_order-clause-run g c = λ s ts have.
    joined-run s ts c.args.books.items c.serial_round.new.books.items (all-at-once c.args.books.items c.serial_round.new.books.items c.serial_round.ensures.many c.serial_round.ensures.finishes) have

pub returns-in-Ok-clause-many : goal.returns-in-Ok-clause-many
returns-in-Ok-clause-many g c =
    (all-whole c.parts_for-parts.result c.args.books.items c.share_ticks.new.books.items c.in-Ok.books.items c.serial_round-in-Ok.new.books.items
    c.share_ticks.ensures.shared c.in-Ok.ensures.come c.serial_round-in-Ok.ensures.many c.serial_round-in-Ok.ensures.finishes).many

pub returns-in-Ok-clause-run : goal.returns-in-Ok-clause-run
returns-in-Ok-clause-run g c = λ s ts have. joined-run s ts c.args.books.items c.serial_round-in-Ok.new.books.items
    (all-whole c.parts_for-parts.result c.args.books.items c.share_ticks.new.books.items c.in-Ok.books.items c.serial_round-in-Ok.new.books.items
    c.share_ticks.ensures.shared c.in-Ok.ensures.come c.serial_round-in-Ok.ensures.many c.serial_round-in-Ok.ensures.finishes) have

pub returns-in-Ok-clause-ticks : goal.returns-in-Ok-clause-ticks
returns-in-Ok-clause-ticks g c = λ most few. joined-ticks c.args.books.items c.serial_round-in-Ok.new.books.items most
    (all-whole c.parts_for-parts.result c.args.books.items c.share_ticks.new.books.items c.in-Ok.books.items c.serial_round-in-Ok.new.books.items
    c.share_ticks.ensures.shared c.in-Ok.ensures.come c.serial_round-in-Ok.ensures.many c.serial_round-in-Ok.ensures.finishes) few

pub returns-in-Err-clause-refused : goal.returns-in-Err-clause-refused
returns-in-Err-clause-refused g c =
    let parts = c.parts_for-parts.result in
    let books = c.args.books.items in
    let same = c.in-Err.ensures.refused.0 in
    let shared : AreShared parts books c.in-Err.books.items =
    subst (λ (left : List Book). AreShared parts books left) (sym same) c.share_ticks.ensures.shared in (
      c.join_ticks.ensures.undone parts books c.requires.fresh shared,
      c.join_ticks.ensures.room ∙ c.in-Err.ensures.refused.1 ∙ c.share_ticks.ensures.room,
    )
