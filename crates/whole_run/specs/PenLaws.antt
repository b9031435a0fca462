-- A pen takes lines one after another.
use Rattle.std.proofs.Common.{◌≢◌, ◌∙◌, ℕ, Bool, List, [], ◌∷◌, Option, Ok, Err, refl, sym, subst}
use Rattle.trace_text.specs.declared.lines.Line.{Line}
use Rattle.trace_text.specs.Line.{line_text}
use Rattle.trace_text.proofs.Ends.{some_text}
use Rattle.safety_laws.specs.TraceText.{lines_text}
use Rattle.trace_writer.specs.Handing.{HandsOver}
use Rattle.trace_writer.proofs.Writing.{some_before}
use Rattle.trace_writer.proofs.Handed.{hands-nothing, hands-none, hands-then, hands-first}
use Rattle.trace_tell.specs.Telling.{TellerLaws}
use Rattle.trace_tell.proofs.Texts.{text_append}
use Rattle.whole_run.specs.Pens.{pen_told, pen_stopped, stop_out_of_memory}

-- the text of some lines isn't empty
pub text_some : (line : Line) (lines : List Line) → lines_text (line ∷ lines) ≢ []
text_some line lines = some_before (line_text line) (lines_text lines) (some_text line)

module _ {K : Type 0} (written : K → Option (List ℕ)) (faults : K → ℕ) (exact : Bool) where
  pub pen_laws : TellerLaws (pen_told written faults exact) (pen_stopped written faults exact) stop_out_of_memory
  pen_laws = record {
    none = λ a. ((refl, refl), hands-nothing written faults exact a.writer.now a.sink.now);
    more = λ a b c xs ys one two. (
      (two.0.0 ∙ one.0.0, two.0.1 ∙ one.0.1),
      subst (λ (text : List ℕ). HandsOver written faults exact (Ok tt) a.writer.now c.writer.now a.sink.now c.sink.now text) (sym (text_append xs ys))
          (hands-then written faults exact (Ok tt) a.writer.now b.writer.now c.writer.now a.sink.now b.sink.now c.sink.now (lines_text xs) (lines_text ys) one.1 two.1),
    );
    front = λ a b fail xs ys one. (
      one.0,
      subst (λ (text : List ℕ). HandsOver written faults exact (Err fail) a.writer.now b.writer.now a.sink.now b.sink.now text) (sym (text_append xs ys))
          (hands-first written faults exact a.writer.now b.writer.now a.sink.now b.sink.now (lines_text xs) (lines_text ys) one.1),
    );
    later = λ a b c fail xs ys one two. (
      (two.0.0 ∙ one.0.0, two.0.1 ∙ one.0.1),
      subst (λ (text : List ℕ). HandsOver written faults exact (Err fail) a.writer.now c.writer.now a.sink.now c.sink.now text) (sym (text_append xs ys))
          (hands-then written faults exact (Err fail) a.writer.now b.writer.now c.writer.now a.sink.now b.sink.now c.sink.now (lines_text xs) (lines_text ys) one.1 two.1),
    );
    short = λ a line lines. ((refl, refl), hands-none written faults exact a.writer.now a.sink.now (lines_text (line ∷ lines)) (text_some line lines));
  }
