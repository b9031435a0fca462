-- The text of lines, and then of others.
use Rattle.std.proofs.Common.{◌≡◌, ◌∙◌, List, [], ◌∷◌, ◌++◌, ℕ, sym, ap, refl, append_assoc}
use Rattle.trace_text.specs.declared.lines.Line.{Line}
use Rattle.trace_text.specs.Line.{line_text}
use Rattle.safety_laws.specs.TraceText.{lines_text}

pub text_append : (lines more : List Line) → lines_text (lines ++ more) ≡ lines_text lines ++ lines_text more
text_append [] more = refl
text_append (line ∷ lines) more =
    ap (λ (x : List ℕ). line_text line ++ x) (text_append lines more) ∙ sym (append_assoc (line_text line) (lines_text lines) (lines_text more))
