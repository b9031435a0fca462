use Rattle.std.proofs.Common.{◌≡◌}
use Rattle.detector_bank.specs.Lists.{calls_until}
use Rattle.detector_bank.specs.Watching.{WalkFits, WalkStands, Tallies, AreCalled}
use Rattle.detector_bank.proofs.rounds.bank_calls.Given as goal

-- the rounds so far were taken, and the sets of the last are kept
abbrev pub invariant-loop-done : goal.invariant-loop-done
invariant-loop-done l = record {
  fits : WalkFits l.walk l.bank.items;
  stands : WalkStands l.walk l.bank.items l.pulses.items l.done;
  tallies : Tallies l.calling l.bank.items l.walk.detector_states.items;
  before : AreCalled l.before l.bank.items l.pulses.items l.done;
  calls : l.calls.items ≡ calls_until l.bank.items l.pulses.items l.done;
}
