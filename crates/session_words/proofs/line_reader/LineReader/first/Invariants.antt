use Rattle.std.proofs.Common.{◌≤◌, ◌+◌, ◌-◌, length}
use Rattle.io_edge.specs.Edge.{Stays}
use Rattle.session_words.specs.Lines.{Lacks}
use Rattle.session_words.specs.Unread.{held_of, unread, Leaves}
use Rattle.session_words.proofs.line_reader.LineReader.first.Given as goal

-- what was read is the front of the line, and then what is held
abbrev pub invariant-loop-ended : goal.invariant-loop-ended
invariant-loop-ended g l = record {
  front : Leaves (g.S.Source.left l.fn.source) (unread l.self (g.S.Source.left l.source)) l.line.items;
  lacks : Lacks 10 l.line.items;
  short : length l.line.items ≤ l.fn.limit;
  few : length (held_of l.self) ≤ 4096;
  same : Stays g.S.Source.counts_exactly (g.S.Source.faults l.fn.source) (g.S.Source.faults l.source);
  kept : g.S.Source.faults l.fn.source ≤ g.S.Source.faults l.source;
}

abbrev pub decreases-loop-ended : goal.decreases-loop-ended
decreases-loop-ended g l = l.fn.limit + 4097 - (length l.line.items + length (held_of l.self))
