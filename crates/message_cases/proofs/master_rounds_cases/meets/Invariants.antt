use Rattle.std.proofs.Common.{◌≡◌, length}
use Rattle.master_rounds.specs.RoundsStand.{cabinet_count, rounds_begun}
use Rattle.message_cases.proofs.master_rounds_cases.meets.Given as goal

abbrev pub invariant-loop-place : goal.invariant-loop-place
invariant-loop-place l = record {
  rounds : rounds_begun l.master_rounds ≡ l.place;
  cabinets : cabinet_count l.master_rounds ≡ length l.s.cabinets.items;
}
