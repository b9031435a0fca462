use Rattle.std.proofs.Common.{◌≡◌, length, All}
use Rattle.master_rounds.specs.Answered.{IsEmpty}
use Rattle.master_rounds.proofs.master_rounds.nothing_from.Given as goal

abbrev pub invariant-loop-place : goal.invariant-loop-place
invariant-loop-place l = record {
  count : length l.all.items ≡ l._place;
  none : All IsEmpty l.all.items;
}
