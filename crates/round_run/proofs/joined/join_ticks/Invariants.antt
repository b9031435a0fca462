use Rattle.std.proofs.Common.{◌≡◌, vec_capacity}
use Rattle.round_run.proofs.Sharing.{UndoneTo}
use Rattle.round_run.proofs.joined.join_ticks.Given as goal

-- the ticks of the books before this place are those of one pass
abbrev pub invariant-loop-k : goal.invariant-loop-k
invariant-loop-k l = record {
  undone : UndoneTo l.fn.books.items l.books.items l.k;
  room : vec_capacity l.books ≡ vec_capacity l.fn.books;
}
