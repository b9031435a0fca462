use Rattle.std.proofs.Common.{◌∙◌, arith}
use Rattle.cab_row.proofs.Books.{follows_on, follows_item}
use Rattle.cab_row.proofs.finish.finish_book.Goals as goal

pub loop-book-preserved : goal.loop-book-preserved
loop-book-preserved g c = let L = g.B.Logged in let i = c.loop-book.invariant in let e = c.apply.ensures in (
  follows_on L.journal L.left_of L.replays c.args.book.now c.loop-book.book c.apply.new.self i.0 (follows_item L.journal L.left_of L.replays c.loop-book.book c.apply.new.self c.loop-pass.pass e.journal e.own e.others e.replays),
  λ p less. e.others p (λ z. absurd (omega (arith, less, z))) ∙ i.1 p less,
)
