-- The effect of a correction: the laws of the counter from a local zero on.
use Rattle.std.specs.Prelude.{ℕ, true, false, ◌≡◌, ◌≢◌, ◌≤◌, ◌<◌, ◌+◌, ◌*◌, List}
use Rattle.sig_tables.specs.Counting.{Correction, counted, target_after, last_counter, begins_cycle, most_a_cycle, needed}

-- if a cycle begins with this target, the next cycle begins after `ticks` ticks
pub record CycleEnds (k : Correction) (past : List ℕ) (target ticks : ℕ) : Type 0 where
  pub begins : begins_cycle (counted k ticks target past) ≡ true
  pub first : (n : ℕ) → 1 ≤ n → n < ticks → begins_cycle (counted k n target past) ≡ false
  pub some : 1 ≤ ticks
  pub most : ticks ≤ k.cycle + most_a_cycle k

-- the next cycle begins within the cycle and its greatest correction. If the target wasn't 0, one cycle less is needed
-- from there; if it was 0, it is 0 there
pub record Corrects (k : Correction) (past : List ℕ) (target : ℕ) : Type 0 where
  pub ticks : ℕ
  pub ends : CycleEnds k past target ticks
  pub closer : target ≢ 0 → needed k target ≡ needed k (target_after k ticks target) + 1
  pub stays : target ≡ 0 → target_after k ticks target ≡ 0

-- counter and target are equal after n ticks
abbrev pub AreEqual : Correction → List ℕ → ℕ → ℕ → Type 0
AreEqual k past target n = last_counter (counted k n target past) ≡ target_after k n target

-- counter and target are equal from some moment within the needed cycles on, so each later local zero has target 0
pub record ComesOntoOffset (k : Correction) (past : List ℕ) (target : ℕ) : Type 0 where
  pub moment : ℕ
  pub within : moment ≤ needed k target * (k.cycle + most_a_cycle k)
  pub equal : (n : ℕ) → moment ≤ n → AreEqual k past target n
  pub zeros : (n : ℕ) → moment ≤ n → begins_cycle (counted k n target past) ≡ true → target_after k n target ≡ 0
