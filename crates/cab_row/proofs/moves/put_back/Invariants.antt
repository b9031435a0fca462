use Rattle.std.proofs.Common.{◌≡◌, ◌+◌, ◌++◌, reverse, vec_len, vec_capacity}
use Rattle.cab_row.proofs.moves.put_back.Given as goal

abbrev pub invariant-loop-book : goal.invariant-loop-book
invariant-loop-book g l = (l.books.items ++ reverse l.room.items ≡ l.initial.books.items) × (vec_len l.room + vec_len l.books ≡ vec_len l.initial.books) × (vec_capacity l.room ≡ vec_capacity l.initial.room)

abbrev pub decreases-loop-book : goal.decreases-loop-book
decreases-loop-book g l = vec_len l.books
