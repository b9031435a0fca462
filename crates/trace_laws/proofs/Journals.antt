-- A journal's line as it is read: longest runs, tested by sums and never spelled out.
use Rattle.std.proofs.Common.{◌≡◌, ◌+◌, ◌∙◌, ◌==◌, if◌then◌else◌, ℕ, zero, suc, List, [], ◌∷◌, ◌++◌, length, replicate, get_or, refl, sym, ap, arith}
use Rattle.trace_text.specs.declared.lines.Line.{Line}
use Rattle.trace_text.specs.declared.lines.Line.TheVariants.{J}
use Rattle.trace_text.specs.IsLine.{AreLongest}
use Rattle.sig_types.specs.Items.{Item}
use Rattle.cabinet_history.specs.Journals.{times, runs_of, passes_of}
use Rattle.run_definition.proofs.Runs.{runs-tell}
use Rattle.trace_laws.specs.Runs.{events_in}
use Rattle.trace_laws.specs.Script.{Script, Hears, Goes, Refuses, rule_for}
use Rattle.trace_laws.proofs.Longest.{longest-told}

times-append : (p : ℕ) (xs ys : List ℕ) → times p (xs ++ ys) ≡ times p xs + times p ys
times-append p [] ys = omega arith
times-append p (q ∷ xs) ys = grind (arith, times-append p xs ys)

times-run : (p q n : ℕ) → times p (replicate n q) ≡ (if p == q then n else 0)
times-run p q zero = grind arith
times-run p q (suc n) = grind (arith, times-run p q n)

-- how often a pass is in the journal is the sum over its runs
pub added : (p : ℕ) (runs : List (ℕ × ℕ)) → times p (passes_of runs) ≡ events_in p runs
added p [] = refl
added p (run ∷ runs) = times-append p (replicate run.1 run.0) (passes_of runs) ∙ grind (arith, times-run p run.0 run.1, added p runs)

-- a journal's line whose sums are the lengths of the streams continues
pub journal-goes : (cab : ℕ) (streams : List (List Item)) (next : List ℕ → Script) (runs : List (ℕ × ℕ)) → AreLongest runs → ((p : ℕ) → events_in p runs ≡ length (get_or streams p []))
    → Goes (Hears cab streams next) (J cab runs ∷ []) (next (passes_of runs))
journal-goes cab streams next runs are sums =
    (passes_of runs, ap (λ (x : List (ℕ × ℕ)). J cab x) (sym (longest-told runs are)), (λ p. added p runs ∙ sums p), refl)

-- the runs of a line, if it is a journal
runs_in : Line → List (ℕ × ℕ)
runs_in (J cab runs) = runs
runs_in _ = []

same-runs : (cab : ℕ) (a b : List (ℕ × ℕ)) → J cab a ≡ J cab b → a ≡ b
unfolding runs_in
same-runs cab a b e = ap runs_in e

-- one whose sums differ somewhere is refused
pub journal-refused : (cab : ℕ) (streams : List (List Item)) (next : List ℕ → Script) (runs : List (ℕ × ℕ)) → (((p : ℕ) → events_in p runs ≡ length (get_or streams p [])) → ⊥)
    → Refuses (Hears cab streams next) (J cab runs) (rule_for (J cab []) (J cab runs))
journal-refused cab streams next runs differs = (
  (λ journal is merge.
      let same : runs ≡ runs_of journal = same-runs cab runs (runs_of journal) is in
      let back : passes_of runs ≡ journal = ap passes_of same ∙ runs-tell journal in
      differs (λ p. sym (added p runs) ∙ ap (times p) back ∙ merge p)),
  refl,
)
