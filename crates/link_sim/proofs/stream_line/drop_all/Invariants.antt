use Rattle.std.proofs.Common.{◌≡◌, ℕ, ◌<◌, ◌≤◌}
use Rattle.link_sim.specs.LateLists.{on_late_list, DropsPast}
use Rattle.link_sim.proofs.stream_line.drop_all.Given as goal

-- the lists before this one have dropped it, the others are as they were
abbrev pub invariant-loop-k : goal.invariant-loop-k
invariant-loop-k l = record {
  done : (k : ℕ) → k < l.k → DropsPast l.round (on_late_list l.fn.late k) (on_late_list l.late k);
  rest : (k : ℕ) → l.k ≤ k → on_late_list l.late k ≡ on_late_list l.fn.late k;
}
