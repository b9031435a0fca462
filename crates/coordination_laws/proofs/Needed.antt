-- How many cycles are needed: one less after each.
use Rattle.std.proofs.Common.{◌≡◌, ◌⊎◌, inl, inr, ℕ, zero, suc, ◌+◌, ◌-◌, ◌%◌, ◌<◌, ◌≤◌, min, refl, ◌∙◌, ap, arith}
use Rattle.std.proofs.Math.Nat.{mod-eq_of_lt, mod_self}
use Rattle.sig_tables.specs.Counting.{steps_for}
use Rattle.coordination_laws.proofs.Steps.{no-steps, one-step, step-more, fewer-steps}

-- what is left to add at a local zero with this target
pub left-some : (cycle t : ℕ) → 1 ≤ t → t < cycle → (cycle - t) % cycle ≡ cycle - t
left-some cycle t some below = mod-eq_of_lt (let less : cycle - t < cycle = omega arith in less)

pub left-none : (cycle t : ℕ) → t ≡ 0 → (cycle - t) % cycle ≡ 0
left-none cycle t z = ap (λ (x : ℕ). x % cycle) (let e : cycle - t ≡ cycle = omega arith in e) ∙ mod_self cycle

-- a cycle that adds all that it may, or as far as the cycle, takes one from the number
pub add-closer : (cycle most t end added : ℕ) → 1 ≤ most → 1 ≤ t → t < cycle → end < cycle → added ≤ most
    → ((end ≡ t + added) × (added ≡ most)) ⊎ ((t + added ≡ cycle) × (end ≡ 0))
    → steps_for ((cycle - t) % cycle) most ≡ steps_for ((cycle - end) % cycle) most + 1
add-closer cycle most t end added h some below low few (inl x) =
    let e : cycle - t ≡ (cycle - end) + most = omega arith in
    rw (left-some cycle t some below, left-some cycle end (omega arith) low, e) (step-more (cycle - end) most h (omega arith))
add-closer cycle most t end added h some below low few (inr x) =
    rw (left-some cycle t some below, left-none cycle end x.1, no-steps most h) (one-step (cycle - t) most (omega arith) (omega arith) ∙ one)
  where
    one : 1 ≡ 0 + 1
    one = refl

-- so does a cycle of shortway that adds, which stays the sooner way
pub add-closer-two : (cycle add subtract t end added : ℕ) → 1 ≤ add → 1 ≤ subtract → 1 ≤ t → t < cycle → end < cycle → added ≤ add
    → ((end ≡ t + added) × (added ≡ add)) ⊎ ((t + added ≡ cycle) × (end ≡ 0))
    → steps_for (cycle - t) add ≤ steps_for t subtract
    → min (steps_for ((cycle - t) % cycle) add) (steps_for t subtract) ≡ min (steps_for ((cycle - end) % cycle) add) (steps_for end subtract) + 1
add-closer-two cycle add subtract t end added h g some below low few x sooner =
    numbers (steps_for ((cycle - t) % cycle) add) (steps_for t subtract) (steps_for ((cycle - end) % cycle) add) (steps_for end subtract)
    (add-closer cycle add t end added h some below low few x)
    (rw (left-some cycle t some below) sooner)
    (elim x [ inl y ↦ inr (fewer-steps t end subtract g (omega arith)) | inr y ↦ inl (rw (left-none cycle end y.1) (no-steps add h)) ])
  where
    numbers : (x y x' y' : ℕ) → x ≡ x' + 1 → x ≤ y → (x' ≡ 0) ⊎ (y ≤ y') → min x y ≡ min x' y' + 1
    numbers x y x' y' e le (inl z) = omega arith
    numbers x y x' y' e le (inr z) = omega arith

-- and one that subtracts
pub subtract-closer : (cycle add subtract t end taken : ℕ) → 1 ≤ add → 1 ≤ subtract → 1 ≤ t → t < cycle → end < cycle → taken ≤ subtract
    → (end + taken ≡ t) × ((taken ≡ subtract) ⊎ (end ≡ 0))
    → steps_for t subtract < steps_for (cycle - t) add
    → min (steps_for ((cycle - t) % cycle) add) (steps_for t subtract) ≡ min (steps_for ((cycle - end) % cycle) add) (steps_for end subtract) + 1
subtract-closer cycle add subtract t zero taken h g some below low few x sooner =
    numbers (steps_for ((cycle - t) % cycle) add) (steps_for t subtract) (steps_for ((cycle - 0) % cycle) add) (steps_for 0 subtract)
    (one-step t subtract some (omega arith))
    (rw (left-some cycle t some below) sooner)
    (rw (left-none cycle 0 refl) (no-steps add h))
  where
    numbers : (x y x' y' : ℕ) → y ≡ 1 → y < x → x' ≡ 0 → min x y ≡ min x' y' + 1
    numbers x y x' y' e l z = omega arith
subtract-closer cycle add subtract t (suc end) taken h g some below low few x sooner =
    let e : t ≡ suc end + subtract = elim x.1 [ inl y ↦ omega arith | inr y ↦ absurd (omega arith) ] in
    numbers (steps_for ((cycle - t) % cycle) add) (steps_for t subtract) (steps_for ((cycle - suc end) % cycle) add) (steps_for (suc end) subtract)
    (ap (λ (y : ℕ). steps_for y subtract) e ∙ step-more (suc end) subtract g (omega arith))
    (rw (left-some cycle t some below) sooner)
    (rw (left-some cycle t some below, left-some cycle (suc end) (omega arith) low) (fewer-steps (cycle - t) (cycle - suc end) add h (omega arith)))
  where
    numbers : (x y x' y' : ℕ) → y ≡ y' + 1 → y < x → x ≤ x' → min x y ≡ min x' y' + 1
    numbers x y x' y' e l le = omega arith
