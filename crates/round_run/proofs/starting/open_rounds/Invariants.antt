use Rattle.std.proofs.Common.{◌≡◌, drop}
use Rattle.std.specs.Vec.Iter.{into_iter_items}
use Rattle.round_run.proofs.Begun.{BegunTo}
use Rattle.round_run.proofs.starting.open_rounds.Given as goal

-- the round was begun on the books before this place, and the streams of the others are left
abbrev pub invariant-loop-one : goal.invariant-loop-one
invariant-loop-one l = record {
  left : into_iter_items l.one-iterator ≡ drop l.k l.fn.streams.items;
  begun : BegunTo l.fn.streams.items l.fn.books.items l.books.items l.k;
}
