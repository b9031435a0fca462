use Rattle.detector_bank.specs.Watching.{Tallies}
use Rattle.detector_bank.proofs.Walking.{Walked}
use Rattle.detector_bank.proofs.walk.call_round.Given as goal

-- the detectors before this one were looked at
abbrev pub invariant-loop-k : goal.invariant-loop-k
invariant-loop-k l = record {
  walked : Walked l.fn.walk l.walk l.bank.items l.round l.k;
  tallies : Tallies l.fn.calling l.bank.items l.fn.walk.detector_states.items → Tallies l.calling l.bank.items l.walk.detector_states.items;
}
