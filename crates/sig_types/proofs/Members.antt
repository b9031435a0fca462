-- Walks over the phases of a set, from the least: how many are left, and that each is a phase.
use Rattle.std.proofs.Common.{◌≡◌, ◌∙◌, ℕ, ◌<◌, ◌≤◌, ◌==◌, Bool, true, false, not, ◌&&◌, List, [], ◌∷◌, length, ◌⊎◌, if◌then◌else◌, inl, inr, refl, sym, ap, arith}
use Rattle.std.proofs.lemmas.Bool.{false≢true}
use Rattle.std.proofs.lemmas.Bool.Decides.{eqb_tells}
use Rattle.sig_types.specs.declared.phase_set.PhaseSet.{PhaseSet}
use Rattle.sig_types.specs.PhaseSet.{has, phases_of, IsWithout}
use Rattle.sig_types.specs.Phases.{is_phase, is_in, those, all_phases, first, only}
use Rattle.sig_types.proofs.Lists.{in-cons, in-head, in-tail, phase-in, phase-listed}
use Rattle.sig_types.proofs.Sets.{listed-phase}

-- fewer pass where each that passes the one test passes the other
no-more : (f g : ℕ → Bool) (xs : List ℕ) → ((q : ℕ) → is_in xs q ≡ true → g q ≡ true → f q ≡ true)
    → length (those g xs) ≤ length (those f xs)
no-more f g [] h = omega arith
no-more f g (x ∷ xs) h = split (no-more f g xs (λ q i. h q (in-tail x xs q i))) (f x) refl (g x) refl
  where
    split : length (those g xs) ≤ length (those f xs) → (a : Bool) → f x ≡ a → (b : Bool) → g x ≡ b
        → length (if b then x ∷ those g xs else those g xs) ≤ length (if a then x ∷ those f xs else those f xs)
    split ih true e true k = omega arith
    split ih true e false k = omega arith
    split ih false e true k = absurd (false≢true (sym e ∙ h x (in-head x xs) k))
    split ih false e false k = ih

-- and one of them less where one of the list does not pass
pub fewer : (f g : ℕ → Bool) (xs : List ℕ) (p : ℕ) → ((q : ℕ) → is_in xs q ≡ true → g q ≡ true → f q ≡ true)
    → is_in xs p ≡ true → f p ≡ true → g p ≡ false → length (those g xs) < length (those f xs)
fewer f g [] p h i t u = absurd (false≢true i)
fewer f g (x ∷ xs) p h i t u =
    split (no-more f g xs (λ q i. h q (in-tail x xs q i))) (λ j. fewer f g xs p (λ q i. h q (in-tail x xs q i)) j t u)
    (in-cons x xs p i) (f x) refl (g x) refl
  where
    split : length (those g xs) ≤ length (those f xs) → (is_in xs p ≡ true → length (those g xs) < length (those f xs))
        → (p ≡ x) ⊎ (is_in xs p ≡ true) → (a : Bool) → f x ≡ a → (b : Bool) → g x ≡ b
        → length (if b then x ∷ those g xs else those g xs) < length (if a then x ∷ those f xs else those f xs)
    split least ih (inl s) true e true k = absurd (false≢true (sym u ∙ ap g s ∙ k))
    split least ih (inl s) true e false k = omega arith
    split least ih (inl s) false e b k = absurd (false≢true (sym e ∙ ap f (sym s) ∙ t))
    split least ih (inr r) true e true k = let l : length (those g xs) < length (those f xs) = ih r in omega arith
    split least ih (inr r) true e false k = omega arith
    split least ih (inr r) false e true k = absurd (false≢true (sym e ∙ h x (in-head x xs) k))
    split least ih (inr r) false e false k = ih r

-- a set without one of its phases has fewer
pub one-less : (set left : PhaseSet) (phase : ℕ) → is_phase phase ≡ true → has set phase ≡ true
    → IsWithout set left phase → length (phases_of left) < length (phases_of set)
one-less set left phase is there h =
    fewer (has set) (has left) all_phases phase (λ q i u. kept (has set q) (not (q == phase)) (sym (h q (listed-phase q i)) ∙ u))
    (phase-listed phase is) there (h phase is ∙ rw there (same (phase == phase) (eq phase)))
  where
    kept : (a b : Bool) → (a && b) ≡ true → a ≡ true
    kept true b e = refl
    kept false b e = absurd (false≢true e)

    eq : (p : ℕ) → (p == p) ≡ true
    eq p = elim (eqb_tells p p) [ inl (t, e) ↦ t | inr (t, n) ↦ absurd (n refl) ]

    same : (b : Bool) → b ≡ true → not b ≡ false
    same true e = refl
    same false e = absurd (false≢true e)

-- the first of some phases is at most 16, and so is the least phase of a set; 0 where there is none
pub first-within : (test : ℕ → Bool) (xs : List ℕ) → ((q : ℕ) → is_in xs q ≡ true → q ≤ 16) → only (first test xs) ≤ 16
first-within test [] h = omega arith
first-within test (x ∷ xs) h = split (test x) (first-within test xs (λ q i. h q (in-tail x xs q i)))
  where
    split : (b : Bool) → only (first test xs) ≤ 16 → only (if b then x ∷ [] else first test xs) ≤ 16
    split true ih = h x (in-head x xs)
    split false ih = ih

pub least-within : (s : PhaseSet) → only (first (has s) all_phases) ≤ 16
least-within s = first-within (has s) all_phases (λ q i. (phase-in q (listed-phase q i)).1)
