use Rattle.std.proofs.Common.{◌≡◌, vec_capacity}
use Rattle.round_run.proofs.Sharing.{SharedTo}
use Rattle.round_run.proofs.joined.share_ticks.Given as goal

-- the ticks of the books before this place are shared
abbrev pub invariant-loop-k : goal.invariant-loop-k
invariant-loop-k l = record {
  shared : SharedTo l.parts l.fn.books.items l.books.items l.k;
  room : vec_capacity l.books ≡ vec_capacity l.fn.books;
}
