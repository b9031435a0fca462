-- The lines of a cabinet's round as they are written from its book: its journal, then the displays and the replies in
-- order.
use Rattle.std.specs.Prelude.{ℕ, ◌-◌, List, [], ◌∷◌, ◌++◌, length, take, drop}
use Rattle.sig_types.specs.declared.frame.Frame.{Frame}
use Rattle.trace_text.specs.declared.lines.Line.{Line}
use Rattle.trace_text.specs.declared.lines.Line.TheVariants.{J, A}
use Rattle.cabinet_history.specs.declared.Reply.{Reply}
use Rattle.cabinet_history.specs.Journals.{runs_of}
use Rattle.run_definition.specs.Lines.{frame_lines, load_lines, reply_lines}
use Rattle.cab_book.specs.declared.book.Book.{Book}
use Rattle.cab_book.specs.declared.happened.Answered.{Answered}
use Rattle.cab_book.specs.Books.{journal_of, written_in, answered_in}
use Rattle.cab_book.specs.Happenings.{replies_in}

-- the displays of a round that have a line, from one place up to another
abbrev pub frames_between : ℕ → ℕ → List (ℕ × Frame) → List (ℕ × Frame)
frames_between first end written = take (end - first) (drop first written)

-- the lines of a reply: an L line if a download ended, then an A line
abbrev pub answer_lines : ℕ → Reply → List Line
answer_lines cab r = load_lines cab r.load ++ A cab r.pass r.text ∷ []

-- the lines of these replies, each after the displays that precede it, and then of the remaining displays. The
-- displays before the place `first` have been written
abbrev pub told_lines : ℕ → ℕ → List (ℕ × Frame) → List Answered → List Line
told_lines cab first written [] = frame_lines cab (drop first written)
told_lines cab first written (a ∷ answered) =
    frame_lines cab (frames_between first a.behind written) ++ (answer_lines cab a.reply ++ told_lines cab a.behind written answered)

-- the lines of a book's round
abbrev pub book_lines : ℕ → Book → List Line
book_lines cab b = J cab (runs_of (journal_of b)) ∷ told_lines cab 0 (written_in b) (answered_in b)

-- the lines of the displays that one book has after those of an earlier book
abbrev pub new_frame_lines : ℕ → Book → Book → List Line
new_frame_lines cab old new = frame_lines cab (drop (length (written_in old)) (written_in new))

-- the lines of the replies that one book has after those of an earlier book
abbrev pub new_reply_lines : ℕ → Book → Book → List Line
new_reply_lines cab old new = reply_lines cab (replies_in (drop (length (answered_in old)) (answered_in new)))
