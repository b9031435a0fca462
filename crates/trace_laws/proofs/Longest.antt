-- Longest runs are those of the journal that they describe.
use Rattle.std.proofs.Common.{◌≡◌, ◌≢◌, ◌<◌, ◌+◌, ◌∙◌, ℕ, zero, suc, List, [], ◌∷◌, ◌++◌, length, replicate, get_or, refl, sym, ap, subst, arith}
use Rattle.trace_text.specs.IsLine.{AreLongest}
use Rattle.cabinet_history.specs.Journals.{with_run, runs_of, passes_of}

-- the next run, if there is one, is of another pass
abbrev IsApart : ℕ → List (ℕ × ℕ) → Type 0
IsApart pass [] = Unit {0}
IsApart pass (run ∷ runs) = pass ≢ run.0

-- each run has an event, and no two neighbours are of one pass
abbrev AreLong : List (ℕ × ℕ) → Type 0
AreLong [] = Unit {0}
AreLong (run ∷ runs) = (0 < run.1) × IsApart run.0 runs × AreLong runs

first-run : (p : ℕ) (runs : List (ℕ × ℕ)) → IsApart p runs → with_run p runs ≡ (p, 1) ∷ runs
first-run p [] apart = refl
first-run p (run ∷ runs) apart = grind (arith, apart)

next-run : (p n : ℕ) (runs : List (ℕ × ℕ)) → with_run p ((p, n) ∷ runs) ≡ (p, n + 1) ∷ runs
next-run p n runs = grind arith

of-run : (n p : ℕ) (journal : List ℕ) → IsApart p (runs_of journal) → runs_of (replicate (suc n) p ++ journal) ≡ (p, suc n) ∷ runs_of journal
of-run zero p journal apart = first-run p (runs_of journal) apart
of-run (suc n) p journal apart =
    let more : suc n + 1 ≡ suc (suc n) = omega arith in
    ap (with_run p) (of-run n p journal apart) ∙ next-run p (suc n) (runs_of journal) ∙ ap (λ (m : ℕ). (p, m) ∷ runs_of journal) more

spelled : (n p : ℕ) (journal : List ℕ) → 0 < n → IsApart p (runs_of journal) → runs_of (replicate n p ++ journal) ≡ (p, n) ∷ runs_of journal
spelled zero p journal some apart = absurd (omega (arith, some))
spelled (suc n) p journal some apart = of-run n p journal apart

long-told : (runs : List (ℕ × ℕ)) → AreLong runs → runs_of (passes_of runs) ≡ runs
long-told [] are = refl
long-told (run ∷ runs) are =
    let rest : runs_of (passes_of runs) ≡ runs = long-told runs are.2 in
    spelled run.1 run.0 (passes_of runs) are.0 (subst (IsApart run.0) (sym rest) are.1) ∙ ap (λ (x : List (ℕ × ℕ)). run ∷ x) rest

-- ---- longest runs by their places are so one after another

apart-on : (run next : ℕ × ℕ) (runs : List (ℕ × ℕ)) → ((k : ℕ) → k + 1 < length (run ∷ next ∷ runs) → (get_or (run ∷ next ∷ runs) k (0, 0)).0 ≢ (get_or (run ∷ next ∷ runs) (k + 1) (0, 0)).0)
    → (k : ℕ) → k + 1 < length (next ∷ runs) → (get_or (next ∷ runs) k (0, 0)).0 ≢ (get_or (next ∷ runs) (k + 1) (0, 0)).0
apart-on run next runs apart k less =
    let same : suc k + 1 ≡ suc (k + 1) = omega arith in
    subst (λ (n : ℕ). (get_or (run ∷ next ∷ runs) (suc k) (0, 0)).0 ≢ (get_or (run ∷ next ∷ runs) n (0, 0)).0) same (apart (suc k) (omega (arith, less)))

from-places : (runs : List (ℕ × ℕ)) → ((k : ℕ) → k < length runs → 0 < (get_or runs k (0, 0)).1) → ((k : ℕ) → k + 1 < length runs → (get_or runs k (0, 0)).0 ≢ (get_or runs (k + 1) (0, 0)).0) → AreLong runs
from-places [] full apart = tt
from-places (run ∷ []) full apart = (full 0 (omega arith), tt, tt)
from-places (run ∷ next ∷ runs) full apart = (
  full 0 (omega arith),
  apart 0 (omega arith),
  from-places (next ∷ runs) (λ k less. full (suc k) (omega (arith, less))) (λ k less. apart-on run next runs apart k less),
)

pub longest-told : (runs : List (ℕ × ℕ)) → AreLongest runs → runs_of (passes_of runs) ≡ runs
longest-told runs are = long-told runs (from-places runs are.full are.apart)
