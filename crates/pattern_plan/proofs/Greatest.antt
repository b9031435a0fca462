-- The greatest of what the phases of a set measure.
use Rattle.std.proofs.Common.{◌≡◌, ◌∙◌, ℕ, ◌≤◌, ◌==◌, Bool, true, false, not, ◌&&◌, max, List, [], ◌∷◌, if◌then◌else◌, inl, inr, refl, sym, ap, subst, arith}
use Rattle.std.proofs.Math.Nat.{le_trans, le-max_left, le-max_right}
use Rattle.std.proofs.lemmas.Bool.{false≢true}
use Rattle.std.proofs.lemmas.Bool.Decides.{eqb_tells}
use Rattle.sig_types.specs.declared.phase_set.PhaseSet.{PhaseSet}
use Rattle.sig_types.specs.PhaseSet.{has, phases_of, IsWithout}
use Rattle.sig_types.specs.Phases.{is_phase, is_in, those, all_phases}
use Rattle.sig_types.proofs.Lists.{in-cons, in-head, in-tail}
use Rattle.sig_types.proofs.Sets.{in-phases, listed-phase}
use Rattle.sig_tables.specs.Sums.{greatest}

-- a member measures no more than the greatest
greatest-least : (m : ℕ → ℕ) (xs : List ℕ) (p : ℕ) → is_in xs p ≡ true → m p ≤ greatest m xs
greatest-least m [] p i = absurd (false≢true i)
greatest-least m (x ∷ xs) p i = elim (in-cons x xs p i) [
  | inl e ↦ subst (λ (z : ℕ). m z ≤ max (m x) (greatest m xs)) (sym e) (le-max_left _ _)
  | inr r ↦ le_trans (greatest-least m xs p r) (le-max_right _ _)
]

-- beside what one phase measures, it does not matter whether that phase is left out
left-out : (m : ℕ → ℕ) (f g : ℕ → Bool) (xs : List ℕ) (p : ℕ) → ((q : ℕ) → is_in xs q ≡ true → g q ≡ (f q && not (q == p)))
    → max (greatest m (those f xs)) (m p) ≡ max (greatest m (those g xs)) (m p)
left-out m f g [] p h = refl
left-out m f g (x ∷ xs) p h = elim (eqb_tells x p) [
  | inl (t, e) ↦ same (f x) (g x) e (h x (in-head x xs) ∙ rw t (none (f x))) (left-out m f g xs p (λ q i. h q (in-tail x xs q i)))
  | inr (t, e) ↦ other (f x) (g x) (h x (in-head x xs) ∙ rw t (all (f x))) (left-out m f g xs p (λ q i. h q (in-tail x xs q i)))
]
  where
    none : (a : Bool) → (a && not true) ≡ false
    none true = refl
    none false = refl

    all : (a : Bool) → (a && not false) ≡ a
    all true = refl
    all false = refl

    over : (x p a b : ℕ) → x ≡ p → max a p ≡ max b p → max (max x a) p ≡ max b p
    over x p a b e h = omega arith

    same : (a b : Bool) → x ≡ p → b ≡ false → max (greatest m (those f xs)) (m p) ≡ max (greatest m (those g xs)) (m p)
        → max (greatest m (if a then x ∷ those f xs else those f xs)) (m p) ≡ max (greatest m (if b then x ∷ those g xs else those g xs)) (m p)
    same true true e n ih = absurd (false≢true (sym n))
    same true false e n ih = let k : m x ≡ m p = ap m e in over (m x) (m p) _ _ k ih
    same false true e n ih = absurd (false≢true (sym n))
    same false false e n ih = ih

    beside : (x p a b : ℕ) → max a p ≡ max b p → max (max x a) p ≡ max (max x b) p
    beside x p a b h = omega arith

    other : (a b : Bool) → b ≡ a → max (greatest m (those f xs)) (m p) ≡ max (greatest m (those g xs)) (m p)
        → max (greatest m (if a then x ∷ those f xs else those f xs)) (m p) ≡ max (greatest m (if b then x ∷ those g xs else those g xs)) (m p)
    other true true e ih = beside (m x) (m p) _ _ ih
    other true false e ih = absurd (false≢true e)
    other false true e ih = absurd (false≢true (sym e))
    other false false e ih = ih

-- the greatest of a set is that of the set without a phase, or what that phase measures
pub greatest-one-less : (m : ℕ → ℕ) (set left : PhaseSet) (phase : ℕ) → is_phase phase ≡ true → has set phase ≡ true
    → IsWithout set left phase → greatest m (phases_of set) ≡ max (m phase) (greatest m (phases_of left))
greatest-one-less m set left phase is there h =
    joined (m phase) _ _ (greatest-least m (phases_of set) phase (in-phases (has set) phase is ∙ there))
    (left-out m (has set) (has left) all_phases phase (λ q i. h q (listed-phase q i)))
  where
    joined : (p a b : ℕ) → p ≤ a → max a p ≡ max b p → a ≡ max p b
    joined p a b l h = omega arith

-- what measures each member alike measures the greatest alike
pub greatest-alike : (f g : ℕ → ℕ) (xs : List ℕ) → ((q : ℕ) → is_in xs q ≡ true → f q ≡ g q) → greatest f xs ≡ greatest g xs
greatest-alike f g [] h = refl
greatest-alike f g (x ∷ xs) h = rw (h x (in-head x xs), greatest-alike f g xs (λ q i. h q (in-tail x xs q i))) refl
