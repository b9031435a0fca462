-- What the texts of lines say, and that the lines of a prefix are lines of a trace.
use Rattle.std.proofs.Common.{◌≡◌, ◌∙◌, ◌+◌, ◌==◌, ℕ, false, List, [], ◌∷◌, ◌++◌, length, refl, sym, ap, arith, append_assoc}
use Rattle.std.proofs.lemmas.Bool.{ne_eqb}
use Rattle.std.proofs.lemmas.List.{length-append}
use Rattle.trace_text.specs.declared.lines.Line.{Line}
use Rattle.trace_text.specs.Line.{line_text}
use Rattle.trace_text.specs.IsLine.{IsLine}
use Rattle.trace_text.specs.Words.{Lacks}
use Rattle.trace_text.proofs.Cuts.{lacks_head, lacks_tail, one_cut}
use Rattle.safety_laws.specs.TraceText.{AreLines}
use Rattle.trace_laws.specs.Faults.{first_piece}
use Rattle.trace_laws.specs.Laws.{LinesTell}
use Rattle.trace_laws.proofs.NoNewline.{no_newline}
use Rattle.trace_laws.proofs.SameLines.{front, front_ended, same_front}

-- a line, its newline, and what follows it
cut-first : (l : Line) (rest : List ℕ) → line_text l ++ rest ≡ front l ++ 10 ∷ rest
cut-first l rest = ap (λ (text : List ℕ). text ++ rest) (front_ended l) ∙ append_assoc (front l) (10 ∷ []) rest

lines-told : (a b : Line) (x y : List ℕ) → IsLine a → IsLine b → line_text a ++ x ≡ line_text b ++ y → (a ≡ b) × (x ≡ y)
lines-told a b x y is also e =
    let both = one_cut 10 (front a) (front b) x y (no_newline a is) (no_newline b also) (sym (cut-first a x) ∙ e ∙ cut-first b y) in
    (same_front a b is also both.0, both.1)

-- up to the newline
piece-to : (bytes rest : List ℕ) → Lacks 10 bytes → first_piece (bytes ++ 10 ∷ rest) ≡ bytes ++ 10 ∷ []
piece-to [] rest lacks = refl
piece-to (b ∷ bytes) rest lacks =
    let other : (b == 10) ≡ false = ne_eqb b 10 (lacks_head 10 b bytes lacks) in
    rw other (ap (λ (x : List ℕ). b ∷ x) (piece-to bytes rest (lacks_tail 10 b bytes lacks)))

first-piece-told : (a : Line) (x : List ℕ) → IsLine a → first_piece (line_text a ++ x) ≡ line_text a
first-piece-told a x is = ap first_piece (cut-first a x) ∙ piece-to (front a) x (no_newline a is) ∙ sym (front_ended a)

never-empty : (a : Line) (x : List ℕ) → IsLine a → line_text a ++ x ≡ [] → ⊥
never-empty a x is e =
    let long : length (front a) + length (10 ∷ x) ≡ 0 = sym (length-append (front a) (10 ∷ x)) ∙ ap length (sym (cut-first a x) ∙ e) in
    omega (arith, long)

pub lines-tell : LinesTell
lines-tell = record { told = lines-told; piece = first-piece-told; some = never-empty }

-- the first of some lines are lines
pub are-first : (xs ys : List Line) → AreLines (xs ++ ys) → AreLines xs
are-first [] ys are = tt
are-first (x ∷ xs) ys are = (are.0, are-first xs ys are.1)
