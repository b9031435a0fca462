use Rattle.std.proofs.Common.{◌≡◌, ◌++◌, [], ◌∷◌, arith, rules}
use Rattle.round_run.proofs.Texts.{answers-more}
use Rattle.round_run.proofs.replying.answers.Goals as goal

pub loop-book-preserved : goal.loop-book-preserved
loop-book-preserved c =
    let more : c.push.new.self.items ≡ c.loop-book.all.items ++ c.in-Ok.own ∷ [] = search rules in
    rw more (answers-more c.loop-book.all.items c.args.books.now.items c.loop-book.book-index c.in-Ok.own c.book-item.result (omega arith)
    (rw c.deref-book-items.ensures.value at c.book-item.is) c.in-Ok.ensures c.loop-book.invariant)
