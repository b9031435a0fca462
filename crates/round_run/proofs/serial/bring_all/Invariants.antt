use Rattle.std.proofs.Common.{◌≡◌, ◌≢◌, ◌++◌, ℕ, replicate}
use Rattle.cabinet_history.specs.CabinetHistory.{CabinetHistory}
use Rattle.sig_types.specs.Passes.{number_of}
use Rattle.cab_book.specs.Books.{BookStands, streams_in, journal_of, left_of, ticks_by_end}
use Rattle.round_run.proofs.serial.bring_all.Given as goal

-- what is left of the stream is still to come after the journal so far
abbrev pub invariant-loop-stream : goal.invariant-loop-stream
invariant-loop-stream l = record {
  stands : (cabinet_history : CabinetHistory) → BookStands l.fn.book cabinet_history → BookStands l.book cabinet_history;
  streams : streams_in l.book ≡ streams_in l.fn.book;
  journal : journal_of l.book ++ replicate (left_of l.book (number_of l.stream)) (number_of l.stream) ≡ journal_of l.fn.book ++ replicate (left_of l.fn.book (number_of l.stream)) (number_of l.stream);
  others : (p : ℕ) → p ≢ number_of l.stream → left_of l.book p ≡ left_of l.fn.book p;
  ticks : ticks_by_end l.book ≡ ticks_by_end l.fn.book;
}

abbrev pub decreases-loop-stream : goal.decreases-loop-stream
decreases-loop-stream l = left_of l.book (number_of l.stream)
