use Rattle.cab_row.specs.Whole.{HasAppliedMore, IsDone}
use Rattle.cab_row.proofs.finish.finish_book.Given as goal

abbrev pub invariant-loop-pass : goal.invariant-loop-pass
invariant-loop-pass g l = let L = g.B.Logged in HasAppliedMore L.journal L.left_of L.replays l.fn.book l.book × IsDone L.left_of l.pass l.book

abbrev pub invariant-loop-book : goal.invariant-loop-book
invariant-loop-book g l = let L = g.B.Logged in HasAppliedMore L.journal L.left_of L.replays l.fn.book l.book × IsDone L.left_of l.pass l.book

abbrev pub decreases-loop-book : goal.decreases-loop-book
decreases-loop-book g l = g.B.Logged.left_of l.book l.pass
