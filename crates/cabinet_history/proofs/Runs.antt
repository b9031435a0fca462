-- The longest runs of a journal that grows by one pass.
use Rattle.std.proofs.Common.{◌≡◌, ℕ, zero, suc, ◌+◌, ◌==◌, ◌∙◌, Bool, true, false, inl, inr, if◌then◌else◌, List, [], ◌∷◌, ◌++◌, replicate, refl, sym, ap, append_assoc, append-nil, add-one}
use Rattle.std.proofs.lemmas.Bool.Decides.{eqb_tells}
use Rattle.cabinet_history.specs.Journals.{with_run, runs_of, passes_of}

-- one pass after some runs
abbrev pub with_last : List (ℕ × ℕ) → ℕ → List (ℕ × ℕ)
with_last [] pass = (pass, 1) ∷ []
with_last (run ∷ []) pass = if pass == run.0 then (run.0, run.1 + 1) ∷ [] else run ∷ (pass, 1) ∷ []
with_last (run ∷ next ∷ runs) pass = run ∷ with_last (next ∷ runs) pass

-- two tests of one equation
turned : (q p : ℕ) → (q == p) ≡ (p == q)
turned q p = elim (eqb_tells q p) [
  | inl (t, e) ↦ elim (eqb_tells p q) [ inl (u, f) ↦ t ∙ sym u | inr (u, ne) ↦ absurd (ne (sym e)) ]
  | inr (t, ne) ↦ elim (eqb_tells p q) [ inl (u, f) ↦ absurd (ne (sym f)) | inr (u, also) ↦ t ∙ sym u ]
]

equal : (p q r : ℕ) → p ≡ r → q ≡ r → (p == q) ≡ true
equal p q r e f = elim (eqb_tells p q) [ inl (t, same) ↦ t | inr (t, ne) ↦ absurd (ne (e ∙ sym f)) ]

unequal : (p q r : ℕ) → (p ≡ r → ⊥) → q ≡ r → (p == q) ≡ false
unequal p q r ne f = elim (eqb_tells p q) [ inl (t, same) ↦ absurd (ne (same ∙ f)) | inr (t, other) ↦ t ]

swapped : (q p : ℕ) (runs : List (ℕ × ℕ)) → with_run q (with_last runs p) ≡ with_last (with_run q runs) p
swapped q p [] = ap (λ (b : Bool). if b then (q, 1 + 1) ∷ [] else (q, 1) ∷ (p, 1) ∷ []) (turned q p)
swapped q p (run ∷ []) = elim (eqb_tells p run.0) [
  | inl (t, e) ↦ elim (eqb_tells q run.0) [ inl (u, f) ↦ rw (t, u, equal p q run.0 e f) refl | inr (u, other) ↦ rw (t, u, t) refl ]
  | inr (t, ne) ↦ elim (eqb_tells q run.0) [ inl (u, f) ↦ rw (t, u, unequal p q run.0 ne f) refl | inr (u, other) ↦ rw (t, u, t) refl ]
]
swapped q p (run ∷ next ∷ runs) = split (q == run.0)
  where
    split : (b : Bool) → (if b then (q, run.1 + 1) ∷ with_last (next ∷ runs) p else (q, 1) ∷ run ∷ with_last (next ∷ runs) p)
        ≡ with_last (if b then (q, run.1 + 1) ∷ next ∷ runs else (q, 1) ∷ run ∷ next ∷ runs) p
    split true = refl
    split false = refl

pub runs-more : (journal : List ℕ) (p : ℕ) → runs_of (journal ++ p ∷ []) ≡ with_last (runs_of journal) p
runs-more [] p = refl
runs-more (q ∷ journal) p = ap (with_run q) (runs-more journal p) ∙ swapped q p (runs_of journal)

more_last : (n p : ℕ) → replicate (suc n) p ≡ replicate n p ++ p ∷ []
more_last zero p = refl
more_last (suc n) p = ap (λ (xs : List ℕ). p ∷ xs) (more_last n p)

pub passes-more : (runs : List (ℕ × ℕ)) (p : ℕ) → passes_of (with_last runs p) ≡ passes_of runs ++ p ∷ []
passes-more [] p = refl
passes-more (run ∷ []) p = elim (eqb_tells p run.0) [
  | inl (t, e) ↦ rw (t, append-nil (replicate run.1 run.0), e, add-one run.1, append-nil (replicate (suc run.1) run.0)) (more_last run.1 run.0)
  | inr (t, ne) ↦ rw (t, append-nil (replicate run.1 run.0)) refl
]
passes-more (run ∷ next ∷ runs) p =
    ap (λ (xs : List ℕ). replicate run.1 run.0 ++ xs) (passes-more (next ∷ runs) p)
    ∙ sym (append_assoc (replicate run.1 run.0) (passes_of (next ∷ runs)) (p ∷ []))

-- runs that are the longest stay so
pub stays-longest : (runs : List (ℕ × ℕ)) (p : ℕ) → runs ≡ runs_of (passes_of runs) → with_last runs p ≡ runs_of (passes_of (with_last runs p))
stays-longest runs p e = sym (ap runs_of (passes-more runs p) ∙ runs-more (passes_of runs) p ∙ ap (λ (x : List (ℕ × ℕ)). with_last x p) (sym e))
