use Rattle.std.proofs.Common.{◌≡◌, ◌≤◌, []}
use Rattle.io_edge.specs.Edge.{Stays}
use Rattle.session_words.specs.Unread.{held_of, unread, PassesOver}
use Rattle.session_words.proofs.Held.{HasRead}
use Rattle.session_words.proofs.line_reader.LineReader.pass_over.Given as goal

-- nothing is held, and more than 4,096 bytes of the line were skipped
abbrev pub invariant-pieces : goal.invariant-pieces
invariant-pieces g l = record {
  empty : held_of l.self ≡ [];
  passed : PassesOver (unread l.fn.self (g.S.Source.left l.fn.source)) (g.S.Source.left l.source);
  read : HasRead l.counter (g.S.Source.left l.fn.source) (g.S.Source.left l.source);
  same : Stays g.S.Source.counts_exactly (g.S.Source.faults l.fn.source) (g.S.Source.faults l.source);
  kept : g.S.Source.faults l.fn.source ≤ g.S.Source.faults l.source;
}
