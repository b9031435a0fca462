-- The arithmetic of a correction: that many ticks in steps of at most that many.
use Rattle.std.proofs.Common.{◌≡◌, ◌⊎◌, inl, inr, ℕ, ◌+◌, ◌-◌, ◌/◌, ◌%◌, ◌<◌, ◌≤◌, ◌∙◌, ap, arith}
use Rattle.std.proofs.Math.Nat.{div-eq_of_lt, add-div_right, div-mul-le_self, le_trans, mod-eq_of_lt, add-mod_right}
use Rattle.std.proofs.lemmas.Nat.{le-div}
use Rattle.sig_tables.specs.Counting.{steps_for}

-- no ticks take no step
pub no-steps : (most : ℕ) → 1 ≤ most → steps_for 0 most ≡ 0
no-steps most h = div-eq_of_lt (let less : 0 + most - 1 < most = omega arith in less)

-- what one step holds takes one
pub one-step : (n most : ℕ) → 1 ≤ n → n ≤ most → steps_for n most ≡ 1
one-step n most some fits =
    let e : n + most - 1 ≡ (n - 1) + most = omega arith in
    ap (λ (x : ℕ). x / most) e ∙ add-div_right (n - 1) (omega arith) ∙ ap (λ (x : ℕ). x + 1) (div-eq_of_lt (omega arith))

-- and more takes one step more than what is left after it
pub step-more : (n most : ℕ) → 1 ≤ most → 1 ≤ n → steps_for (n + most) most ≡ steps_for n most + 1
step-more n most h some =
    let e : n + most + most - 1 ≡ (n + most - 1) + most = omega arith in
    ap (λ (x : ℕ). x / most) e ∙ add-div_right (n + most - 1) (omega arith)

-- fewer ticks take no more steps
pub fewer-steps : (m n most : ℕ) → 1 ≤ most → m ≤ n → steps_for m most ≤ steps_for n most
fewer-steps m n most h le =
    let less : m + most - 1 ≤ n + most - 1 = omega arith in
    le-div ((m + most - 1) / most) (n + most - 1) most (omega arith) (le_trans (div-mul-le_self (m + most - 1) most) less)

-- a tick later, within the cycle and at its end
pub later-within : (cycle m : ℕ) → m + 1 < cycle → (m + 1) % cycle ≡ m + 1
later-within cycle m h = mod-eq_of_lt h

pub later-end : (cycle m : ℕ) → m + 1 ≡ cycle → (m + 1) % cycle ≡ 0
later-end cycle m e = rw e (Rattle.std.proofs.Math.Nat.mod_self cycle)

-- the residue of a number that is at most one cycle too great
pub once-round : (cycle m e : ℕ) → e < cycle → (m ≡ e) ⊎ (m ≡ e + cycle) → m % cycle ≡ e
once-round cycle m e below (inl h) = ap (λ (x : ℕ). x % cycle) h ∙ mod-eq_of_lt below
once-round cycle m e below (inr h) = ap (λ (x : ℕ). x % cycle) h ∙ add-mod_right e cycle ∙ mod-eq_of_lt below
