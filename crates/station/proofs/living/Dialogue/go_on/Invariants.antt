use Rattle.std.proofs.Common.{◌≤◌}
use Rattle.io_edge.specs.Edge.{Stays}
use Rattle.session_words.specs.Unread.{unread}
use Rattle.station.specs.Living.{SessionGoesOn}
use Rattle.station.proofs.living.Dialogue.go_on.Given as goal

-- the session has continued from where it was, and no call failed
abbrev pub invariant-lines : goal.invariant-lines
invariant-lines g l = record {
  on : SessionGoesOn l.fn.self.session l.self.session (unread l.fn.self.reader (g.S.Source.left l.fn.source)) (unread l.self.reader (g.S.Source.left l.source))
      (g.K.Sink.written l.fn.sink) (g.K.Sink.written l.sink);
  reads : Stays g.S.Source.counts_exactly (g.S.Source.faults l.fn.source) (g.S.Source.faults l.source);
  reads_kept : g.S.Source.faults l.fn.source ≤ g.S.Source.faults l.source;
  writes : Stays g.K.Sink.counts_exactly (g.K.Sink.faults l.fn.sink) (g.K.Sink.faults l.sink);
  writes_kept : g.K.Sink.faults l.fn.sink ≤ g.K.Sink.faults l.sink;
}
