use Rattle.std.proofs.Common.{◌≡◌, vec_len, vec_capacity}
use Rattle.std.specs.List.{AllWithin, AllZip}
use Rattle.cab_row.specs.Whole.{HasAppliedMore, IsDone}
use Rattle.cab_row.proofs.finish.finish_left.Given as goal

abbrev pub invariant-loop-c : goal.invariant-loop-c
invariant-loop-c g l = let L = g.B.Logged in AllZip (HasAppliedMore L.journal L.left_of L.replays) l.initial.books.items l.books.items × AllWithin (IsDone L.left_of l.passes) l.books.items 0 l.c
    × (vec_len l.books ≡ vec_len l.initial.books) × (vec_capacity l.books ≡ vec_capacity l.initial.books)
