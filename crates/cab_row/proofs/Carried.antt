-- How many passes are in hands.
use Rattle.std.proofs.Common.{◌≡◌, ℕ, zero, suc, ◌+◌, ◌<◌, ◌≤◌, List, [], ◌∷◌, length, get_or, set, refl, arith, All}
use Rattle.cab_row.specs.Views.{total}

module _ {A : Type 0} (f : A → ℕ) where
  -- one element is changed
  pub total_changed : (xs : List A) (i : ℕ) (w d : A) → i < length xs → total f (set xs i w) + f (get_or xs i d) ≡ total f xs + f w
  total_changed [] i w d less = absurd (omega arith)
  total_changed (x ∷ xs) zero w d less = omega arith
  total_changed (x ∷ xs) (suc i) w d less = omega (arith, total_changed xs i w d (omega arith))

  pub one_at_most : (xs : List A) (i : ℕ) (d : A) → i < length xs → f (get_or xs i d) ≤ total f xs
  one_at_most [] i d less = absurd (omega arith)
  one_at_most (x ∷ xs) zero d less = omega arith
  one_at_most (x ∷ xs) (suc i) d less = omega (arith, one_at_most xs i d (omega arith))

  pub total_none : (xs : List A) → All (λ x. f x ≡ 0) xs → total f xs ≡ 0
  total_none [] h = refl
  total_none (x ∷ xs) h = omega (arith, h 0 x (omega arith), total_none xs (λ k d less. h (suc k) d (omega arith)))
