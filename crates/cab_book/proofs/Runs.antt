-- The last run of a journal, and a run more after it.
use Rattle.std.proofs.Common.{◌≡◌, ◌≢◌, ◌≤◌, ◌<◌, ℕ, zero, suc, ◌+◌, ◌==◌, ◌∙◌, Bool, true, false, inl, inr, if◌then◌else◌, List, [], ◌∷◌, ◌++◌, length, replicate, get_or, slice_set, refl, sym, ap, subst, append_assoc, append-nil, arith}
use Rattle.std.proofs.lemmas.Bool.Decides.{eqb_tells}
use Rattle.std.proofs.lemmas.List.{replicate-append-replicate}
use Rattle.cabinet_history.specs.Journals.{times, runs_of, passes_of}
use Rattle.cabinet_history.proofs.Runs.{with_last, stays-longest}
use Rattle.cab_book.specs.Runs.{with_run_last}

pub passes-run : (runs : List (ℕ × ℕ)) (pass many : ℕ) → passes_of (with_run_last runs pass many) ≡ passes_of runs ++ replicate many pass
passes-run [] pass many = append-nil (replicate many pass)
passes-run (run ∷ []) pass many = elim (eqb_tells pass run.0) [
  | inl (t, e) ↦ rw (t, append-nil (replicate run.1 run.0), append-nil (replicate (run.1 + many) run.0), e) (sym (replicate-append-replicate run.1 many run.0))
  | inr (t, ne) ↦ rw (t, append-nil (replicate run.1 run.0), append-nil (replicate many pass)) refl
]
passes-run (run ∷ next ∷ runs) pass many =
    ap (λ (xs : List ℕ). replicate run.1 run.0 ++ xs) (passes-run (next ∷ runs) pass many)
    ∙ sym (append_assoc (replicate run.1 run.0) (passes_of (next ∷ runs)) (replicate many pass))

-- one time is one pass more
run-once : (runs : List (ℕ × ℕ)) (pass : ℕ) → with_run_last runs pass 1 ≡ with_last runs pass
run-once [] pass = refl
run-once (run ∷ []) pass = refl
run-once (run ∷ next ∷ runs) pass = ap (λ (rest : List (ℕ × ℕ)). run ∷ rest) (run-once (next ∷ runs) pass)

has-some : (runs : List (ℕ × ℕ)) (pass many : ℕ) → 1 ≤ length (with_run_last runs pass many)
has-some [] pass many = omega arith
has-some (run ∷ []) pass many = split (pass == run.0)
  where
    split : (b : Bool) → 1 ≤ length (if b then (run.0, run.1 + many) ∷ [] else run ∷ (pass, many) ∷ [])
    split true = omega arith
    split false = omega arith
has-some (run ∷ next ∷ runs) pass many = omega arith

behind-first : (run : ℕ × ℕ) (runs : List (ℕ × ℕ)) (pass : ℕ) → 1 ≤ length runs → with_last (run ∷ runs) pass ≡ run ∷ with_last runs pass
behind-first run [] pass some = absurd (omega (arith, some))
behind-first run (next ∷ runs) pass some = refl

-- and each further time is one more
run-again : (runs : List (ℕ × ℕ)) (pass many : ℕ) → with_run_last runs pass (suc many) ≡ with_last (with_run_last runs pass many) pass
run-again [] pass many = elim (eqb_tells pass pass) [
  | inl (t, e) ↦ let more : suc many ≡ many + 1 = omega arith in rw t (ap (λ (n : ℕ). (pass, n) ∷ []) more)
  | inr (t, ne) ↦ absurd (ne refl)
]
run-again (run ∷ []) pass many = elim (eqb_tells pass run.0) [
  | inl (t, e) ↦ let more : run.1 + suc many ≡ run.1 + many + 1 = omega arith in rw (t, t) (ap (λ (n : ℕ). (run.0, n) ∷ []) more)
  | inr (t, ne) ↦ rw t (ap (λ (rest : List (ℕ × ℕ)). run ∷ rest) (run-again [] pass many))
]
run-again (run ∷ next ∷ runs) pass many =
    ap (λ (rest : List (ℕ × ℕ)). run ∷ rest) (run-again (next ∷ runs) pass many)
    ∙ sym (behind-first run (with_run_last (next ∷ runs) pass many) pass (has-some (next ∷ runs) pass many))

-- runs that are the longest stay so
pub run-longest : (runs : List (ℕ × ℕ)) (pass many : ℕ) → 1 ≤ many → runs ≡ runs_of (passes_of runs)
    → with_run_last runs pass many ≡ runs_of (passes_of (with_run_last runs pass many))
run-longest runs pass zero some longest = absurd (omega (arith, some))
run-longest runs pass (suc zero) some longest =
    subst (λ (r : List (ℕ × ℕ)). r ≡ runs_of (passes_of r)) (sym (run-once runs pass)) (stays-longest runs pass longest)
run-longest runs pass (suc (suc many)) some longest =
    subst (λ (r : List (ℕ × ℕ)). r ≡ runs_of (passes_of r)) (sym (run-again runs pass (suc many)))
    (stays-longest (with_run_last runs pass (suc many)) pass (run-longest runs pass (suc many) (omega arith) longest))

same_run : (run : ℕ × ℕ) (pass many : ℕ) → pass ≡ run.0 → with_run_last (run ∷ []) pass many ≡ (pass, run.1 + many) ∷ []
same_run run pass many e = elim (eqb_tells pass run.0) [
  | inl (t, f) ↦ rw t (ap (λ (p : ℕ). (p, run.1 + many) ∷ []) (sym e))
  | inr (t, ne) ↦ absurd (ne e)
]

other_run : (run : ℕ × ℕ) (pass many : ℕ) → (pass ≡ run.0 → ⊥) → with_run_last (run ∷ []) pass many ≡ run ∷ (pass, many) ∷ []
other_run run pass many ne = elim (eqb_tells pass run.0) [
  | inl (t, f) ↦ absurd (ne f)
  | inr (t, also) ↦ rw t refl
]

-- the last run becomes longer, where that is the pass's own
pub longer : (runs : List (ℕ × ℕ)) (d : ℕ × ℕ) (last pass many : ℕ) → last + 1 ≡ length runs → pass ≡ (get_or runs last d).0
    → with_run_last runs pass many ≡ slice_set runs last (pass, (get_or runs last d).1 + many)
longer [] d last pass many e is = absurd (omega (arith, e))
longer (run ∷ []) d zero pass many e is = same_run run pass many is
longer (run ∷ []) d (suc last) pass many e is = absurd (omega (arith, e))
longer (run ∷ next ∷ runs) d zero pass many e is = absurd (omega (arith, e))
longer (run ∷ next ∷ runs) d (suc last) pass many e is =
    ap (λ (rest : List (ℕ × ℕ)). run ∷ rest) (longer (next ∷ runs) d last pass many (omega (arith, e)) is)

-- where that is another's they begin a run
pub begins : (runs : List (ℕ × ℕ)) (d : ℕ × ℕ) (last pass many : ℕ) → last + 1 ≡ length runs → (pass ≡ (get_or runs last d).0 → ⊥)
    → with_run_last runs pass many ≡ runs ++ (pass, many) ∷ []
begins [] d last pass many e ne = absurd (omega (arith, e))
begins (run ∷ []) d zero pass many e ne = other_run run pass many ne
begins (run ∷ []) d (suc last) pass many e ne = absurd (omega (arith, e))
begins (run ∷ next ∷ runs) d zero pass many e ne = absurd (omega (arith, e))
begins (run ∷ next ∷ runs) d (suc last) pass many e ne =
    ap (λ (rest : List (ℕ × ℕ)). run ∷ rest) (begins (next ∷ runs) d last pass many (omega (arith, e)) ne)

pub last-more : (many pass : ℕ) → replicate (suc many) pass ≡ replicate many pass ++ pass ∷ []
last-more zero pass = refl
last-more (suc many) pass = ap (λ (xs : List ℕ). pass ∷ xs) (last-more many pass)

pub times_both : (p : ℕ) (xs ys : List ℕ) → times p (xs ++ ys) ≡ times p xs + times p ys
times_both p [] ys = omega arith
times_both p (x ∷ xs) ys = split (p == x) (times_both p xs ys)
  where
    split : (b : Bool) → times p (xs ++ ys) ≡ times p xs + times p ys
        → (if b then times p (xs ++ ys) + 1 else times p (xs ++ ys)) ≡ (if b then times p xs + 1 else times p xs) + times p ys
    split true e = omega (arith, e)
    split false e = e

pub times_run : (p n : ℕ) → times p (replicate n p) ≡ n
times_run p zero = refl
times_run p (suc n) = elim (eqb_tells p p) [
  | inl (t, e) ↦ rw t (omega (arith, times_run p n))
  | inr (t, ne) ↦ absurd (ne refl)
]

pub times_other : (q p many : ℕ) → q ≢ p → times q (replicate many p) ≡ 0
times_other q p zero ne = refl
times_other q p (suc many) ne = elim (eqb_tells q p) [ inl (t, e) ↦ absurd (ne e) | inr (t, also) ↦ rw t (times_other q p many ne) ]

-- a run is no longer than its pass is in the journal
pub run-few : (runs : List (ℕ × ℕ)) (d : ℕ × ℕ) (place : ℕ) → place < length runs → (get_or runs place d).1 ≤ times (get_or runs place d).0 (passes_of runs)
run-few [] d place less = absurd (omega (arith, less))
run-few (run ∷ runs) d zero less = omega (arith, times_both run.0 (replicate run.1 run.0) (passes_of runs), times_run run.0 run.1)
run-few (run ∷ runs) d (suc place) less =
    let p = (get_or runs place d).0 in
    omega (arith, times_both p (replicate run.1 run.0) (passes_of runs), run-few runs d place (omega (arith, less)))

-- the first run
pub begins-first : (runs : List (ℕ × ℕ)) (pass many : ℕ) → length runs ≤ 0 → with_run_last runs pass many ≡ runs ++ (pass, many) ∷ []
begins-first [] pass many none = refl
begins-first (run ∷ runs) pass many none = absurd (omega (arith, none))

-- the last run is no longer than its pass is in the journal
pub last-few : (runs : List (ℕ × ℕ)) (last : ℕ × ℕ) (place pass : ℕ) → place < length runs → last ≡ get_or runs place last → last.0 ≡ pass
    → last.1 ≤ times pass (passes_of runs)
last-few runs last place pass less is e =
    let P : ℕ × ℕ → Type 0 = λ r. r.1 ≤ times r.0 (passes_of runs) in
    let own : last.1 ≤ times last.0 (passes_of runs) = subst P (sym is) (run-few runs last place less) in
    subst (λ (p : ℕ). last.1 ≤ times p (passes_of runs)) e own

-- the journal with its last run longer
pub made-longer : (runs : List (ℕ × ℕ)) (last : ℕ × ℕ) (place pass many : ℕ) → place + 1 ≡ length runs → last ≡ get_or runs place last → last.0 ≡ pass
    → with_run_last runs pass many ≡ slice_set runs place (pass, last.1 + many)
made-longer runs last place pass many e is own =
    let P : ℕ × ℕ → Type 0 = λ r. pass ≡ r.0 → with_run_last runs pass many ≡ slice_set runs place (pass, r.1 + many) in
    subst P (sym is) (longer runs last place pass many e) (sym own)

pub made-new : (runs : List (ℕ × ℕ)) (last : ℕ × ℕ) (place pass many : ℕ) → place + 1 ≡ length runs → last ≡ get_or runs place last → (last.0 ≡ pass → ⊥)
    → with_run_last runs pass many ≡ runs ++ (pass, many) ∷ []
made-new runs last place pass many e is other =
    let P : ℕ × ℕ → Type 0 = λ r. (pass ≡ r.0 → ⊥) → with_run_last runs pass many ≡ runs ++ (pass, many) ∷ [] in
    subst P (sym is) (begins runs last place pass many e) (λ same. other (sym same))
