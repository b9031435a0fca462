use Rattle.std.proofs.Common.{◌≡◌, length}
use Rattle.master_poll.specs.Masters.{cabinet_count, round_count}
use Rattle.message_cases.proofs.master_poll_cases.meets.Given as goal

abbrev pub invariant-loop-place : goal.invariant-loop-place
invariant-loop-place l = record {
  rounds : round_count l.master ≡ l.place;
  cabinets : cabinet_count l.master ≡ length l.s.cabinets.items;
}
