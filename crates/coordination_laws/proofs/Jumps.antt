-- A step of drift moves the target by one under the counter; then the tick is as any other.
use Rattle.std.proofs.Common.{◌≡◌, ◌⊎◌, inl, inr, ℕ, zero, suc, ◌+◌, ◌-◌, ◌<◌, ◌≤◌, sym, ◌∙◌, ap, arith}
use Rattle.std.proofs.lemmas.Bool.{cases_order}
use Rattle.sig_tables.specs.Counting.{tick_later, steps_for}
use Rattle.coordination_laws.proofs.Steps.{one-step, step-more, fewer-steps, later-within, later-end}
use Rattle.coordination_laws.proofs.Errors.{At}

-- one step holds that many ticks more, and one tick more takes at most one step more
pub step-holds : (x most : ℕ) → 1 ≤ most → steps_for (x + most) most ≤ steps_for x most + 1
step-holds zero most h =
    let e : 0 + most ≡ most = omega arith in
    let one : steps_for (0 + most) most ≡ 1 = ap (λ (y : ℕ). steps_for y most) e ∙ one-step most most h (omega arith) in
    omega arith
step-holds (suc x) most h = let e : steps_for (suc x + most) most ≡ steps_for (suc x) most + 1 = step-more (suc x) most h (omega arith) in omega arith

pub within-step : (y x most : ℕ) → 1 ≤ most → y ≤ x + most → steps_for y most ≤ steps_for x most + 1
within-step y x most h le =
    let a : steps_for y most ≤ steps_for (x + most) most = fewer-steps y (x + most) most h le in
    let b : steps_for (x + most) most ≤ steps_for x most + 1 = step-holds x most h in
    omega arith

-- the target that a tick later is where it is now
pub before-target : (cycle t : ℕ) → t < cycle → (s : ℕ) × (s < cycle) × (tick_later cycle s ≡ t)
before-target cycle zero below = (
  cycle - 1,
  (let a : cycle - 1 < cycle
      = omega arith in a),
  later-end cycle (cycle - 1) (let e : cycle - 1 + 1 ≡ cycle = omega arith in e),
)
before-target cycle (suc t) below = (
  t,
  (let a : t < cycle = omega arith in a),
  (let e : tick_later cycle t ≡ t + 1
      = later-within cycle t (omega arith) in let f : t + 1 ≡ suc t = omega arith in e ∙ f),
)

-- a clock that loses puts the target one tick less ahead
pub loses-one : (cycle t c e : ℕ) → At cycle t c (e + 1) → (s : ℕ) × (At cycle s c e) × (tick_later cycle s ≡ t)
loses-one cycle t c e a =
    let b = before-target cycle t a.target in (
      b.0,
      (record {
        counter = a.counter;
        target = b.1;
        error = (let h : e + 1 < cycle = a.error in omega arith);
        ahead
            = back t (b.0) a.target b.1 a.error a.counter a.ahead (from b.0 b.1 b.2);
      }),
      b.2,
    )
  where
    from : (s : ℕ) → s < cycle → tick_later cycle s ≡ t → (t ≡ s + 1) ⊎ ((t ≡ 0) × (s + 1 ≡ cycle))
    from s low e = elim (cases_order (s + 1) cycle) [
      | inl h ↦ inr (sym e ∙ later-end cycle s h, h)
      | inr (inl h) ↦ inl (sym e ∙ later-within cycle s h)
      | inr (inr h) ↦ absurd (omega arith)
    ]

    back : (t s : ℕ) → t < cycle → s < cycle → e + 1 < cycle → c < cycle → (t ≡ c + (e + 1)) ⊎ (t + cycle ≡ c + (e + 1))
        → (t ≡ s + 1) ⊎ ((t ≡ 0) × (s + 1 ≡ cycle))
        → (s ≡ c + e) ⊎ (s + cycle ≡ c + e)
    back t s ht hs he hc (inl x) (inl y) = inl (omega arith)
    back t s ht hs he hc (inl x) (inr y) = absurd (omega arith)
    back t s ht hs he hc (inr x) (inl y) = inr (omega arith)
    back t s ht hs he hc (inr x) (inr y) = inl (omega arith)

-- a counter on target is then one tick ahead of it
pub loses-level : (cycle t c : ℕ) → 1 ≤ cycle → At cycle t c 0 → (s : ℕ) × (At cycle s c (cycle - 1)) × (tick_later cycle s ≡ t)
loses-level cycle t c some a =
    let b = before-target cycle t a.target in (
      b.0,
      (record {
        counter = a.counter;
        target = b.1;
        error = (let l : cycle - 1 < cycle = omega arith in l);
        ahead
            = back t (b.0) a.target b.1 a.counter a.ahead (from b.0 b.1 b.2);
      }),
      b.2,
    )
  where
    from : (s : ℕ) → s < cycle → tick_later cycle s ≡ t → (t ≡ s + 1) ⊎ ((t ≡ 0) × (s + 1 ≡ cycle))
    from s low e = elim (cases_order (s + 1) cycle) [
      | inl h ↦ inr (sym e ∙ later-end cycle s h, h)
      | inr (inl h) ↦ inl (sym e ∙ later-within cycle s h)
      | inr (inr h) ↦ absurd (omega arith)
    ]

    back : (t s : ℕ) → t < cycle → s < cycle → c < cycle → (t ≡ c + 0) ⊎ (t + cycle ≡ c + 0) → (t ≡ s + 1) ⊎ ((t ≡ 0) × (s + 1 ≡ cycle))
        → (s ≡ c + (cycle - 1)) ⊎ (s + cycle ≡ c + (cycle - 1))
    back t s ht hs hc (inl x) (inl y) = inr (omega arith)
    back t s ht hs hc (inl x) (inr y) = inl (omega arith)
    back t s ht hs hc (inr x) y = absurd (omega arith)
