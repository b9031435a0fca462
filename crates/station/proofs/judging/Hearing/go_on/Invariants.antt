use Rattle.std.proofs.Common.{◌≤◌}
use Rattle.io_edge.specs.Edge.{Stays}
use Rattle.session_words.specs.Unread.{unread}
use Rattle.station.specs.Judging.{JudgingGoesOn}
use Rattle.station.proofs.judging.Hearing.go_on.Given as goal

-- the judging has continued from where it was, and no call failed
abbrev pub invariant-lines : goal.invariant-lines
invariant-lines g l = record {
  on : JudgingGoesOn l.fn.self.judge l.self.judge (unread l.fn.self.reader (g.S.Source.left l.fn.source)) (unread l.self.reader (g.S.Source.left l.source))
      (g.K.Sink.written l.fn.sink) (g.K.Sink.written l.sink) l.number;
  reads : Stays g.S.Source.counts_exactly (g.S.Source.faults l.fn.source) (g.S.Source.faults l.source);
  reads_kept : g.S.Source.faults l.fn.source ≤ g.S.Source.faults l.source;
  writes : Stays g.K.Sink.counts_exactly (g.K.Sink.faults l.fn.sink) (g.K.Sink.faults l.sink);
  writes_kept : g.K.Sink.faults l.fn.sink ≤ g.K.Sink.faults l.sink;
}
