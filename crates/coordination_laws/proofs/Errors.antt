-- The error of a counter: how far the target is ahead of it, round the cycle; and what one step makes of it.
use Rattle.std.proofs.Common.{◌≡◌, ◌⊎◌, inl, inr, ℕ, Bool, true, false, nat_le, ◌==◌, ◌||◌, if◌then◌else◌, ◌+◌, ◌-◌, ◌<◌, ◌≤◌, List, ◌∷◌, refl, ap, arith}
use Rattle.std.proofs.lemmas.Bool.{cases_order}
use Rattle.sig_tables.specs.Counting.{Correction, tick_later, ahead, next_counter, corrected, counter_after}
use Rattle.coordination_laws.proofs.Steps.{later-within, later-end, once-round}
use Rattle.coordination_laws.proofs.Looks.{other, fits, exceeds}

-- counter c and target t of one frame in a cycle, the target ahead by e
pub record At (cycle t c e : ℕ) : Type 0 where
  pub counter : c < cycle
  pub target : t < cycle
  pub error : e < cycle
  pub ahead : (t ≡ c + e) ⊎ (t + cycle ≡ c + e)

-- at local zero the error is the target itself
pub at-zero : (cycle t : ℕ) → t < cycle → At cycle t 0 t
at-zero cycle t h = record { counter = omega arith; target = h; error = h; ahead = inl (omega arith) }

pub zero-error : (cycle t e : ℕ) → At cycle t 0 e → t ≡ e
zero-error cycle t e a = elim a.ahead [ inl h ↦ omega arith | inr h ↦ let below : e < cycle = a.error in absurd (omega arith) ]

-- what a tick makes of a moment of the cycle
record Later (cycle m d : ℕ) : Type 0 where
  is : tick_later cycle m ≡ d
  below : d < cycle
  how : (d ≡ m + 1) ⊎ ((d ≡ 0) × (m + 1 ≡ cycle))

later : (cycle m : ℕ) → m < cycle → Later cycle m (tick_later cycle m)
later cycle m h = elim (cases_order (m + 1) cycle) [
  | inl e ↦ let z : tick_later cycle m ≡ 0 = later-end cycle m e in
      record { is = refl; below = rw z (omega arith); how = inr (z, e) }
  | inr (inl l) ↦ let z : tick_later cycle m ≡ m + 1 = later-within cycle m l in
      record { is = refl; below = rw z (omega arith); how = inl z }
  | inr (inr g) ↦ absurd (omega arith)
]

-- the definition's error of the next frame, for the plain step, is that of the last one
pub ahead-is : (cycle t c e : ℕ) → At cycle t c e → ahead cycle (tick_later cycle t) c ≡ e
ahead-is cycle t c e a =
    let l : Later cycle t (tick_later cycle t) = later cycle t a.target in
    once-round cycle (tick_later cycle t + cycle - c - 1) e a.error
    (numbers cycle t c e (tick_later cycle t) a.counter a.target a.error a.ahead l.below l.how)
  where
    numbers : (cycle t c e d : ℕ) → c < cycle → t < cycle → e < cycle → (t ≡ c + e) ⊎ (t + cycle ≡ c + e) → d < cycle
        → (d ≡ t + 1) ⊎ ((d ≡ 0) × (t + 1 ≡ cycle)) → (d + cycle - c - 1 ≡ e) ⊎ (d + cycle - c - 1 ≡ e + cycle)
    numbers cycle t c e d hc ht he (inl x) hd (inl y) = inr (omega arith)
    numbers cycle t c e d hc ht he (inl x) hd (inr y) = inl (omega arith)
    numbers cycle t c e d hc ht he (inr x) hd (inl y) = inl (omega arith)
    numbers cycle t c e d hc ht he (inr x) hd (inr y) = absurd (omega arith)

-- a plain step keeps the error
pub plain-keeps : (cycle t c e : ℕ) → At cycle t c e → At cycle (tick_later cycle t) (tick_later cycle c) e
plain-keeps cycle t c e a =
    let l : Later cycle t (tick_later cycle t) = later cycle t a.target in
    let k : Later cycle c (tick_later cycle c) = later cycle c a.counter in
    record {
      counter = k.below;
      target = l.below;
      error = a.error;
      ahead = numbers cycle t c e (tick_later cycle t) (tick_later cycle c) a.counter a.target a.error l.below a.ahead l.how k.how;
    }
  where
    numbers : (cycle t c e d b : ℕ) → c < cycle → t < cycle → e < cycle → d < cycle → (t ≡ c + e) ⊎ (t + cycle ≡ c + e)
        → (d ≡ t + 1) ⊎ ((d ≡ 0) × (t + 1 ≡ cycle)) → (b ≡ c + 1) ⊎ ((b ≡ 0) × (c + 1 ≡ cycle)) → (d ≡ b + e) ⊎ (d + cycle ≡ b + e)
    numbers cycle t c e d b hc ht he hd (inl x) (inl y) (inl z) = inl (omega arith)
    numbers cycle t c e d b hc ht he hd (inl x) (inl y) (inr z) = absurd (omega arith)
    numbers cycle t c e d b hc ht he hd (inl x) (inr y) (inl z) = inr (omega arith)
    numbers cycle t c e d b hc ht he hd (inl x) (inr y) (inr z) = inl (omega arith)
    numbers cycle t c e d b hc ht he hd (inr x) (inl y) (inl z) = inr (omega arith)
    numbers cycle t c e d b hc ht he hd (inr x) (inl y) (inr z) = inl (omega arith)
    numbers cycle t c e d b hc ht he hd (inr x) (inr y) (inl z) = absurd (omega arith)
    numbers cycle t c e d b hc ht he hd (inr x) (inr y) (inr z) = absurd (omega arith)

-- a wait puts the target one tick further ahead, and no further than the cycle
pub stand-adds : (cycle t c e : ℕ) → At cycle t c e → e + 1 < cycle → At cycle (tick_later cycle t) c (e + 1)
stand-adds cycle t c e a room =
    let l : Later cycle t (tick_later cycle t) = later cycle t a.target in
    record { counter = a.counter; target = l.below; error = room; ahead = numbers cycle t c e (tick_later cycle t) a.counter room a.ahead l.how }
  where
    numbers : (cycle t c e d : ℕ) → c < cycle → e + 1 < cycle → (t ≡ c + e) ⊎ (t + cycle ≡ c + e)
        → (d ≡ t + 1) ⊎ ((d ≡ 0) × (t + 1 ≡ cycle)) → (d ≡ c + (e + 1)) ⊎ (d + cycle ≡ c + (e + 1))
    numbers cycle t c e d hc room (inl x) (inl y) = inl (omega arith)
    numbers cycle t c e d hc room (inl x) (inr y) = inr (omega arith)
    numbers cycle t c e d hc room (inr x) (inl y) = inr (omega arith)
    numbers cycle t c e d hc room (inr x) (inr y) = absurd (omega arith)

-- the last wait brings the counter onto the target
pub stand-ends : (cycle t c e : ℕ) → At cycle t c e → e + 1 ≡ cycle → At cycle (tick_later cycle t) c 0
stand-ends cycle t c e a full =
    let l : Later cycle t (tick_later cycle t) = later cycle t a.target in
    let below : c < cycle = a.counter in
    record {
      counter = a.counter;
      target = l.below;
      error = omega arith;
      ahead
          = numbers cycle t c e (tick_later cycle t) a.counter a.target l.below full a.ahead l.how;
    }
  where
    numbers : (cycle t c e d : ℕ) → c < cycle → t < cycle → d < cycle → e + 1 ≡ cycle → (t ≡ c + e) ⊎ (t + cycle ≡ c + e)
        → (d ≡ t + 1) ⊎ ((d ≡ 0) × (t + 1 ≡ cycle)) → (d ≡ c + 0) ⊎ (d + cycle ≡ c + 0)
    numbers cycle t c e d hc ht hd f (inl x) (inl y) = absurd (omega arith)
    numbers cycle t c e d hc ht hd f (inl x) (inr y) = inl (omega arith)
    numbers cycle t c e d hc ht hd f (inr x) (inl y) = inl (omega arith)
    numbers cycle t c e d hc ht hd f (inr x) (inr y) = absurd (omega arith)

-- a skip puts it one tick less ahead
pub skip-takes : (cycle t c e : ℕ) → At cycle t c (e + 1) → c + 2 < cycle → At cycle (tick_later cycle t) (c + 2) e
skip-takes cycle t c e a room =
    let l : Later cycle t (tick_later cycle t) = later cycle t a.target in
    let below : e + 1 < cycle = a.error in
    record { counter = room; target = l.below; error = omega arith; ahead = numbers cycle t c e (tick_later cycle t) a.target room a.error a.ahead l.how }
  where
    numbers : (cycle t c e d : ℕ) → t < cycle → c + 2 < cycle → e + 1 < cycle → (t ≡ c + (e + 1)) ⊎ (t + cycle ≡ c + (e + 1))
        → (d ≡ t + 1) ⊎ ((d ≡ 0) × (t + 1 ≡ cycle)) → (d ≡ (c + 2) + e) ⊎ (d + cycle ≡ (c + 2) + e)
    numbers cycle t c e d ht hc he (inl x) (inl y) = inl (omega arith)
    numbers cycle t c e d ht hc he (inl x) (inr y) = inr (omega arith)
    numbers cycle t c e d ht hc he (inr x) (inl y) = inr (omega arith)
    numbers cycle t c e d ht hc he (inr x) (inr y) = absurd (omega arith)

-- the next counter, by the error
pub next-is : (k : Correction) (t c e : ℕ) (before : List ℕ) → At k.cycle t c e
    → next_counter k (c ∷ before) (tick_later k.cycle t) ≡ counter_after k (c ∷ before) c e
next-is k t c e before a = ap (λ (x : ℕ). counter_after k (c ∷ before) c x) (ahead-is k.cycle t c e a)

-- with no error, or outside the window, it is the plain step
pub no-error : (k : Correction) (past : List ℕ) (c : ℕ) → counter_after k past c 0 ≡ tick_later k.cycle c
no-error k past c = refl

pub past-window : (k : Correction) (past : List ℕ) (c e : ℕ) → k.window ≤ c → counter_after k past c e ≡ tick_later k.cycle c
past-window k past c e h = beyond (e == 0)
  where
    beyond : (b : Bool) → (if b || nat_le k.window c then tick_later k.cycle c else corrected k past c e) ≡ tick_later k.cycle c
    beyond true = refl
    beyond false = rw (fits k.window c h) refl

-- inside the window, with an error, it is the mode's
pub in-window : (k : Correction) (past : List ℕ) (c e : ℕ) → c < k.window → 1 ≤ e → counter_after k past c e ≡ corrected k past c e
in-window k past c e h some = rw (other e 0 (omega arith), exceeds k.window c h) refl
