-- The ticks of what a history says rise.
use Rattle.std.proofs.Common.{◌≡◌, ℕ, Bool, true, false, if◌then◌else◌, List, [], ◌∷◌, ◌++◌, length, sym, ◌∙◌, ap, subst, arith, reverse}
use Rattle.std.proofs.lemmas.List.{reverse-append, append-nil}
use Rattle.sig_types.specs.declared.frame.Frame.{Frame}
use Rattle.sig_tables.specs.Past.{History}
use Rattle.sig_tables.specs.Decide.{frames}
use Rattle.trace_text.specs.declared.lines.Line.{Line}
use Rattle.safety_laws.specs.Safe.{Indications, told}
use Rattle.safety_laws.specs.Written.{shown_by, written}
use Rattle.judge_laws.specs.Breaches.{Below, Falls, Rising}
use Rattle.judge_laws.proofs.Runs.{below-later}
use Rattle.judge_laws.proofs.Judged.{told-reverse}

falls-written : (has_line : Frame → Frame → Bool) (fs : List Frame) → Falls (reverse (written has_line fs)) × Below (length fs) (reverse (written has_line fs))
falls-written has_line [] = (tt, tt)
falls-written has_line (f ∷ []) = ((tt, tt), omega arith)
falls-written has_line (g ∷ f ∷ before) = split (has_line f g) (falls-written has_line (f ∷ before))
  where
    split : (b : Bool) → Falls (reverse (written has_line (f ∷ before))) × Below (length (f ∷ before)) (reverse (written has_line (f ∷ before)))
        → Falls (reverse (written has_line (f ∷ before) ++ (if b then (length (f ∷ before), shown_by g) ∷ [] else [])))
        × Below (length (g ∷ f ∷ before)) (reverse (written has_line (f ∷ before) ++ (if b then (length (f ∷ before), shown_by g) ∷ [] else [])))
    split true known =
        subst (λ (x : List (ℕ × Indications)). Falls x × Below (length (g ∷ f ∷ before)) x)
        (sym (reverse-append (written has_line (f ∷ before)) ((length (f ∷ before), shown_by g) ∷ [])))
        ((known.1, known.0), omega arith)
    split false known =
        subst (λ (x : List (ℕ × Indications)). Falls x × Below (length (g ∷ f ∷ before)) x)
        (ap reverse (sym (append-nil (written has_line (f ∷ before)))))
        (known.0, below-later (reverse (written has_line (f ∷ before))) (length (f ∷ before)) (length (g ∷ f ∷ before)) known.1 (omega arith))

pub runs-rise : (h : History) (has_line : Frame → Frame → Bool) (cab : ℕ) (lines : List Line) → told cab lines ≡ written has_line (frames h) → Rising cab lines
runs-rise h has_line cab lines e =
    subst Falls (ap reverse (sym e) ∙ sym (told-reverse cab lines)) (falls-written has_line (frames h)).0
