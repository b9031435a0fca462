use Rattle.std.proofs.Common.{◌≡◌}
use Rattle.detector_bank.specs.Lists.{edges_until}
use Rattle.detector_bank.specs.Watching.{WalkFits, WalkStands}
use Rattle.detector_bank.proofs.rounds.edges.Given as goal

-- the rounds so far were taken
abbrev pub invariant-loop-done : goal.invariant-loop-done
invariant-loop-done l = record {
  fits : WalkFits l.walk l.ordered.items;
  stands : WalkStands l.walk l.ordered.items l.pulses.items l.done;
  edges : l.edges.items ≡ edges_until l.ordered.items l.pulses.items l.done;
}
