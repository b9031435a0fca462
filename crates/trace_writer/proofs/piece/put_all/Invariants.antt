use Rattle.std.proofs.Common.{◌≤◌, length}
use Rattle.io_edge.specs.Edge.{Stays}
use Rattle.trace_writer.specs.Bytes.{AppendsSome}
use Rattle.trace_writer.proofs.piece.put_all.Given as goal

-- a front was appended, and the rest is left
abbrev pub invariant-loop-rest : goal.invariant-loop-rest
invariant-loop-rest g l = record {
  split : AppendsSome (g.K.Sink.written l.fn.sink) (g.K.Sink.written l.sink) l.piece l.rest;
  same : Stays g.K.Sink.counts_exactly (g.K.Sink.faults l.fn.sink) (g.K.Sink.faults l.sink);
  kept : g.K.Sink.faults l.fn.sink ≤ g.K.Sink.faults l.sink;
}

abbrev pub decreases-loop-rest : goal.decreases-loop-rest
decreases-loop-rest g l = length l.rest
