-- A run that was given to a pen is handed over to its writer.
use Rattle.std.proofs.Common.{◌≡◌, [], ◌⊎◌, inl, inr, ℕ, Bool, List, Option, Result, Ok, Err}
use Rattle.trace_text.specs.declared.lines.Line.{Line}
use Rattle.trace_tell.specs.Telling.{TellsLines, TellsWithin}
use Rattle.trace_writer.specs.declared.writer.Stop.{Stop}
use Rattle.trace_writer.specs.declared.writer.Writer.{Writer}
use Rattle.whole_run.specs.declared.pen.Pen.{Pen}
use Rattle.safety_laws.specs.TraceText.{lines_text}
use Rattle.trace_writer.specs.Handing.{held_by, HandsOver, HandsWithin, Writes, WritesWithin}
use Rattle.trace_writer.proofs.Handed.{within-all, within-short, within-whole}
use Rattle.scenario_data.specs.Content.{ScenarioContent}
use Rattle.run_definition.specs.Lines.{front_lines}
use Rattle.whole_run.specs.Orders.{InSomeOrder}
use Rattle.whole_run.specs.Pens.{SamePen, pen_told, pen_stopped}

module _ {K : Type 0} (written : K → Option (List ℕ)) (faults : K → ℕ) (exact : Bool) where
  hands : (result : Result (Unit {0}) Stop) (a b : Pen K) (lines : List Line) → TellsLines (pen_told written faults exact) (pen_stopped written faults exact) result a b lines
      → HandsOver written faults exact result a.writer.now b.writer.now a.sink.now b.sink.now (lines_text lines)
  hands (Ok done) a b lines one = one.1
  hands (Err stop) a b lines one = one.1

  pub same-pen : (result : Result (Unit {0}) Stop) (a b : Pen K) (lines : List Line) → TellsLines (pen_told written faults exact) (pen_stopped written faults exact) result a b lines → SamePen a b
  same-pen (Ok done) a b lines one = one.0
  same-pen (Err stop) a b lines one = one.0

  short-within : (stop : Stop) (a b : Pen K) (left : ℕ) (lines : List Line) → pen_told written faults exact a b lines ⊎ pen_stopped written faults exact a b stop lines
      → HandsWithin written (Err stop) a.writer.now a.sink.now b.sink.now left (lines_text lines)
  short-within stop a b left lines (inl one) = within-whole written faults exact a.writer.now b.writer.now a.sink.now b.sink.now left (lines_text lines) one.1
  short-within stop a b left lines (inr one) = within-short written faults exact a.writer.now b.writer.now a.sink.now b.sink.now left (lines_text lines) one.1

  within : (result : Result (Unit {0}) Stop) (a b : Pen K) (left : ℕ) (lines : List Line)
      → TellsWithin (pen_told written faults exact) (pen_stopped written faults exact) result a b left lines
      → HandsWithin written result a.writer.now a.sink.now b.sink.now left (lines_text lines)
  within (Ok done) a b left lines one = within-all written faults exact (Ok done) a.writer.now a.sink.now b.sink.now left (lines_text lines) one
  within (Err stop) a b left lines one = record { none = tt; up_to = λ some. (short-within stop a b left lines (one some)).up_to some }

  pub hands-order : (result : Result (Unit {0}) Stop) (workers : ℕ) (s : ScenarioContent) (a b : Pen K)
      → InSomeOrder workers s (λ journals. TellsLines (pen_told written faults exact) (pen_stopped written faults exact) result a b (front_lines s journals))
      (λ closed left. TellsWithin (pen_told written faults exact) (pen_stopped written faults exact) result a b left (front_lines s closed))
      → InSomeOrder workers s (λ journals. HandsOver written faults exact result a.writer.now b.writer.now a.sink.now b.sink.now (lines_text (front_lines s journals)))
      (λ closed left. HandsWithin written result a.writer.now a.sink.now b.sink.now left (lines_text (front_lines s closed)))
  hands-order result workers s a b so = record {
    journals = so.journals;
    brought = so.brought;
    closed = so.closed;
    goes_on = so.goes_on;
    holds = hands result a b (front_lines s so.journals) so.holds;
    of_closed = within result a b so.goes_on.left (front_lines s so.closed) so.of_closed;
  }
