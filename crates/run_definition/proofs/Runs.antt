-- The longest runs of a journal give it.
use Rattle.std.proofs.Common.{◌≡◌, ◌+◌, ◌∙◌, ◌==◌, if◌then◌else◌, Bool, true, false, ℕ, suc, List, [], ◌∷◌, ◌++◌, replicate, refl, sym, ap, arith}
use Rattle.trace_text.specs.declared.lines.Line.{Line}
use Rattle.trace_text.specs.declared.lines.Line.TheVariants.{J}
use Rattle.cabinet_history.specs.Journals.{with_run, runs_of, passes_of}

joined : (b : Bool) (p q n : ℕ) (runs : List (ℕ × ℕ)) → (b ≡ true → p ≡ q)
    → passes_of (if b then (p, n + 1) ∷ runs else (p, 1) ∷ (q, n) ∷ runs) ≡ p ∷ (replicate n q ++ passes_of runs)
joined true p q n runs same =
    let next : n + 1 ≡ suc n = omega arith in
    ap (λ (m : ℕ). replicate m p ++ passes_of runs) next ∙ ap (λ (x : ℕ). p ∷ (replicate n x ++ passes_of runs)) (same refl)
joined false p q n runs same = refl

with-run-passes : (p : ℕ) (runs : List (ℕ × ℕ)) → passes_of (with_run p runs) ≡ p ∷ passes_of runs
with-run-passes p [] = refl
with-run-passes p (run ∷ runs) = joined (p == run.0) p run.0 run.1 runs (λ e. grind (arith, e))

pub runs-tell : (journal : List ℕ) → passes_of (runs_of journal) ≡ journal
runs-tell [] = refl
runs-tell (p ∷ journal) = with-run-passes p (runs_of journal) ∙ ap (λ (x : List ℕ). p ∷ x) (runs-tell journal)

-- the runs of a line, if it is a journal
runs_in : Line → List (ℕ × ℕ)
runs_in (J cab runs) = runs
runs_in _ = []

pub same-journal : (cab : ℕ) (a b : List ℕ) → J cab (runs_of a) ≡ J cab (runs_of b) → a ≡ b
unfolding runs_in
same-journal cab a b e = sym (runs-tell a) ∙ ap passes_of (ap runs_in e) ∙ runs-tell b
