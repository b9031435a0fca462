use Rattle.std.proofs.Common.{◌≡◌, ◌++◌, ℕ, ◌+◌, List, drop}
use Rattle.detector_bank.specs.declared.bank.Pulse.{Pulse}
use Rattle.detector_bank.specs.Lists.{round_edges}
use Rattle.detector_bank.specs.Watching.{WalkStands}
use Rattle.detector_bank.proofs.Walking.{Walked}
use Rattle.detector_bank.proofs.walk.edge_round.Given as goal

-- the detectors before this one were looked at, the edges of those from it on are still to come
abbrev pub invariant-loop-k : goal.invariant-loop-k
invariant-loop-k l = record {
  walked : Walked l.fn.walk l.walk l.bank.items l.round l.k;
  edges : (ps : List Pulse) (j : ℕ) → l.round ≡ j + 1 → WalkStands l.fn.walk l.bank.items ps j
      → l.edges.items ++ round_edges ps l.round (drop l.k l.bank.items) ≡ l.fn.edges.items ++ round_edges ps l.round l.bank.items;
}
