-- The text of some lines gives the lines: each ends at its newline.
use Rattle.std.proofs.Common.{◌≡◌, ℕ, ◌+◌, List, [], ◌∷◌, ◌++◌, length, refl, sym, ap, ◌∙◌, arith, append_assoc}
use Rattle.std.proofs.lemmas.List.{length-append}
use Rattle.trace_text.specs.declared.lines.Line.{Line}
use Rattle.trace_text.specs.Line.{line_text}
use Rattle.trace_text.proofs.Cuts.{one_cut}
use Rattle.safety_laws.specs.TraceText.{AreLines, lines_text}
use Rattle.trace_laws.proofs.NoNewline.{no_newline}
use Rattle.trace_laws.proofs.SameLines.{front, front_ended, same_front}

-- the first line of a text, its newline, and the rest
cut_first : (l : Line) (rest : List ℕ) → line_text l ++ rest ≡ front l ++ 10 ∷ rest
cut_first l rest = ap (λ text. text ++ rest) (front_ended l) ∙ append_assoc (front l) (10 ∷ []) rest

some_text : (l : Line) (rest : List ℕ) → [] ≡ line_text l ++ rest → ⊥
some_text l rest e =
    let long : 0 ≡ length (front l) + length (10 ∷ rest) = ap length (e ∙ cut_first l rest) ∙ length-append (front l) (10 ∷ rest) in
    omega (arith, long)

pub same_lines : (a b : List Line) → AreLines a → AreLines b → lines_text a ≡ lines_text b → a ≡ b
same_lines [] [] are also e = refl
same_lines [] (y ∷ ys) are also e = absurd (some_text y (lines_text ys) e)
same_lines (x ∷ xs) [] are also e = absurd (some_text x (lines_text xs) (sym e))
same_lines (x ∷ xs) (y ∷ ys) are also e =
    let cut = sym (cut_first x (lines_text xs)) ∙ e ∙ cut_first y (lines_text ys) in
    let both = one_cut 10 (front x) (front y) (lines_text xs) (lines_text ys) (no_newline x are.0) (no_newline y also.0) cut in
    let first : x ≡ y = same_front x y are.0 also.0 both.0 in
    let rest : xs ≡ ys = same_lines xs ys are.1 also.1 both.1 in
    rw (first, rest) refl
