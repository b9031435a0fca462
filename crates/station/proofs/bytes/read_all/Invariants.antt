use Rattle.std.proofs.Common.{◌≤◌, ◌-◌, ◌+◌, vec_len}
use Rattle.io_edge.specs.Edge.{Stays}
use Rattle.station.specs.Bytes.{LeavesAfter}
use Rattle.station.proofs.bytes.read_all.Given as goal

-- what was read, and then what is left, is what was left
abbrev pub invariant-loop-count : goal.invariant-loop-count
invariant-loop-count g l = record {
  short : vec_len l.bytes ≤ l.fn.limit;
  split : LeavesAfter (g.S.Source.left l.fn.source) (g.S.Source.left l.source) l.bytes.items;
  same : Stays g.S.Source.counts_exactly (g.S.Source.faults l.fn.source) (g.S.Source.faults l.source);
  kept : g.S.Source.faults l.fn.source ≤ g.S.Source.faults l.source;
}

abbrev pub decreases-loop-count : goal.decreases-loop-count
decreases-loop-count g l = l.fn.limit + 1 - vec_len l.bytes
