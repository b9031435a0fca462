use Rattle.cab_row.specs.Whole.{ComesFrom, HasAppliedMore, IsDone, IsWhole}
use Rattle.cab_row.proofs.Books.{zip_on, whole_of}
use Rattle.cab_row.proofs.by_workers.joined.Goals as goal

pub returns-in-Ok-clause-whole : goal.returns-in-Ok-clause-whole
returns-in-Ok-clause-whole g c = let L = g.B.Logged in let old = c.args.books.items in let come = c.in-Ok.ensures.come in
    zip_on (ComesFrom L.journal L.left_of L.replays) (HasAppliedMore L.journal L.left_of L.replays) (IsWhole L.journal L.left_of L.replays c.args.passes) (IsDone L.left_of c.args.passes)
    (λ x y z r s d. whole_of L.journal L.left_of L.replays c.args.passes x y z r.replays r.left s d) old c.in-Ok.books.items c.finish_left.new.books.items come c.finish_left.ensures.follows c.finish_left.ensures.done
