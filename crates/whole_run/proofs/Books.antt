-- The lines of books, one after another.
use Rattle.std.proofs.Common.{◌≡◌, ◌<◌, ◌≤◌, ◌+◌, ◌∙◌, ℕ, List, [], ◌∷◌, ◌++◌, length, drop, get_or, sym, ap, subst, arith}
use Rattle.trace_text.specs.declared.lines.Line.{Line}
use Rattle.trace_text.specs.Line.{line_text}
use Rattle.safety_laws.specs.TraceText.{lines_text}
use Rattle.sig_types.specs.declared.frame.Frame.{Frame}
use Rattle.sig_tables.specs.Decide.{last_frame_of}
use Rattle.scenario_data.specs.Content.{ScenarioContent}
use Rattle.runnable.specs.Runnable.{Runnable}
use Rattle.cabinet_history.specs.CabinetHistory.{CabinetHistory}
use Rattle.cabinet_history.specs.Coming.{history_of}
use Rattle.cab_book.specs.declared.book.Book.{Book}
use Rattle.cab_book.specs.Books.{BookStands, cabinet_history_now, written_in, answered_in}
use Rattle.cab_book.specs.Happenings.{AreInOrder}
use Rattle.run_definition.specs.CabinetState.{CabinetState}
use Rattle.run_definition.specs.Lines.{shown_line, cabinet_lines, opening_lines, each_lines}
use Rattle.round_run.specs.CabinetStates.{IsAt, AreAt, HasRun, HaveRun}
use Rattle.round_run.specs.Lines.{book_lines}
use Rattle.round_run.specs.declared.rounds.ClosedLoop.{ClosedLoop}
use Rattle.round_run.specs.ClosedLoop.{Between}
use Rattle.round_run.proofs.Places.{Picked, pick}
use Rattle.round_run.proofs.Streams.{many-of}

-- there are as many books as cabinets
pub many_books : (s : ScenarioContent) (done : ℕ) (ts : List CabinetState) (c : ClosedLoop) → Between s done ts c → length c.books.items ≡ length s.cabinets
many_books s done ts c so = so.books.many ∙ many-of s ts so.cabinets

pub few_books : (s : ScenarioContent) (done : ℕ) (ts : List CabinetState) (c : ClosedLoop) → Runnable s → Between s done ts c → length c.books.items ≤ 64
few_books s done ts c runnable so = omega (arith, many_books s done ts c so, runnable.few_cabinets)
