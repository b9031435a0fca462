-- What holds of the counter for any targets, even if a set clock shifts them within a cycle.
use Rattle.std.specs.Prelude.{ℕ, zero, suc, true, ◌≡◌, ◌≤◌, ◌<◌, ◌⊎◌, ◌+◌, ◌-◌, List, ◌∷◌}
use Rattle.sig_tables.specs.Counting.{Correction, next_counter, last_counter, stands, begins_cycle, most_a_cycle}
use Rattle.tick_laws.specs.Steps.{Steps}

-- the counter is within the cycle, and has waited no more often than one cycle may
pub record KeepsLimits (k : Correction) (past : List ℕ) : Type 0 where
  pub counter : last_counter past < k.cycle
  pub stood : stands past ≤ most_a_cycle k

-- the most ticks until local zero
abbrev pub to_zero : Correction → List ℕ → ℕ
to_zero k past = (k.cycle - last_counter past) + (most_a_cycle k - stands past)

-- the counters after n more ticks, with these targets
abbrev pub counted_with : Correction → ℕ → (ℕ → ℕ) → List ℕ → List ℕ
counted_with k zero targets past = past
counted_with k (suc n) targets past =
    counted_with k n (λ m. targets (m + 1)) (next_counter k past (targets 0) ∷ past)

-- one step of the counter: it keeps the limits, and a cycle begins or the end of the cycle comes nearer
pub record StepsOn (k : Correction) (past : List ℕ) (target : ℕ) : Type 0 where
  pub how : Steps k.cycle k.window (last_counter past) (next_counter k past target)
  pub keeps : KeepsLimits k (next_counter k past target ∷ past)
  pub nearer : (begins_cycle (next_counter k past target ∷ past) ≡ true) ⊎ (to_zero k (next_counter k past target ∷ past) < to_zero k past)

-- a local zero occurs within `most` ticks
pub record ZeroComes (k : Correction) (past : List ℕ) (targets : ℕ → ℕ) (most : ℕ) : Type 0 where
  pub ticks : ℕ
  pub some : 1 ≤ ticks
  pub within : ticks ≤ most
  pub begins : begins_cycle (counted_with k ticks targets past) ≡ true
