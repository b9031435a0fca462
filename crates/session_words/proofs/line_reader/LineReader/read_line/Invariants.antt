use Rattle.std.proofs.Common.{◌≡◌, ◌≤◌, ◌-◌, length, []}
use Rattle.io_edge.specs.Edge.{Stays, told_as}
use Rattle.session_words.specs.Lines.{Lacks}
use Rattle.session_words.specs.Unread.{held_of, unread}
use Rattle.session_words.proofs.line_reader.LineReader.read_line.Given as goal

-- no newline is held, and nothing was given
abbrev pub invariant-loop-self : goal.invariant-loop-self
invariant-loop-self g l = record {
  lacks : Lacks 10 (held_of l.self);
  unread : unread l.self (g.S.Source.left l.source) ≡ unread l.fn.self (g.S.Source.left l.fn.source);
  longer : length (held_of l.fn.self) ≤ length (held_of l.self);
  told : told_as [] (g.S.Source.left l.source) ≡ told_as [] (g.S.Source.left l.fn.source);
  same : Stays g.S.Source.counts_exactly (g.S.Source.faults l.fn.source) (g.S.Source.faults l.source);
  kept : g.S.Source.faults l.fn.source ≤ g.S.Source.faults l.source;
}

abbrev pub decreases-loop-self : goal.decreases-loop-self
decreases-loop-self g l = 8193 - length (held_of l.self)
