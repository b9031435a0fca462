use Rattle.std.proofs.Common.{◌≡◌, vec_capacity}
use Rattle.round_run.proofs.InSerial.{RunTo}
use Rattle.round_run.proofs.serial.serial_round.Given as goal

-- the books before this place have run their round
abbrev pub invariant-loop-k : goal.invariant-loop-k
invariant-loop-k l = record {
  run : RunTo l.fn.books.items l.books.items l.k;
  room : vec_capacity l.books ≡ vec_capacity l.fn.books;
}
