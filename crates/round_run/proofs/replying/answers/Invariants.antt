use Rattle.round_run.proofs.Texts.{AnswersTo}
use Rattle.round_run.proofs.replying.answers.Given as goal

-- what the books before this place have replied
abbrev pub invariant-loop-book : goal.invariant-loop-book
invariant-loop-book l = AnswersTo l.all.items l.books.items l.book-index
