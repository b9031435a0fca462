-- The counter if the clock drifts: at some ticks the clock advances by two ticks, or not at all.
use Rattle.std.specs.Prelude.{◌==◌, if◌then◌else◌, ℕ, zero, suc, ◌≡◌, ◌≢◌, ◌≤◌, ◌<◌, ◌⊎◌, ◌+◌, ◌%◌, List, ◌∷◌}
use Rattle.sig_tables.specs.Counting.{Correction, tick_later, next_counter, last_counter}

-- what the clock does at a tick: it advances by one tick (Even) or by two (Gains), or stays (Loses)
pub data Drift : Type 0 where
  Even : Drift
  Gains : Drift
  Loses : Drift

-- the target one tick later
abbrev pub moved : ℕ → Drift → ℕ → ℕ
moved cycle Even target = tick_later cycle target
moved cycle Gains target = tick_later cycle (tick_later cycle target)
moved cycle Loses target = target

-- what the clock does from the next tick on
abbrev pub next_drifts : (ℕ → Drift) → ℕ → Drift
next_drifts drifts n = drifts (suc n)

-- the counters after n more ticks
abbrev pub drifted : Correction → ℕ → (ℕ → Drift) → ℕ → List ℕ → List ℕ
drifted k zero drifts target past = past
drifted k (suc n) drifts target past =
    drifted k n (next_drifts drifts) (moved k.cycle (drifts 0) target) (next_counter k past (moved k.cycle (drifts 0) target) ∷ past)

-- the target after n more ticks
abbrev pub target_drifted : ℕ → ℕ → (ℕ → Drift) → ℕ → ℕ
target_drifted cycle zero drifts target = target
target_drifted cycle (suc n) drifts target = target_drifted cycle n (next_drifts drifts) (moved cycle (drifts 0) target)

-- any two ticks at which the clock gains or loses are at least `gap` ticks apart
abbrev pub Spaced : ℕ → (ℕ → Drift) → Type 0
Spaced gap drifts = (i j : ℕ) → i < j → drifts i ≢ Even → drifts j ≢ Even → i + gap ≤ j

-- the correction can follow the clock: only shortway can follow a clock that gains ticks
abbrev pub CanCorrect : Correction → (ℕ → Drift) → Type 0
CanCorrect k drifts = (k.mode ≡ 3) ⊎ ((i : ℕ) → drifts i ≢ Gains)

-- counter and target are equal after some number of ticks, at most `most`
pub record MeetsTarget (k : Correction) (drifts : ℕ → Drift) (past : List ℕ) (target most : ℕ) : Type 0 where
  pub moment : ℕ
  pub within : moment ≤ most
  pub equal : last_counter (drifted k moment drifts target past) ≡ target_drifted k.cycle moment drifts target

-- the counter equals the target, or differs from it by one tick, modulo the cycle
abbrev pub IsNear : ℕ → ℕ → ℕ → Type 0
IsNear cycle counter target =
    (counter ≡ target)
    ⊎ ((tick_later cycle counter ≡ target) ⊎ (tick_later cycle target ≡ counter))

-- counter and target become equal within `most` ticks, and differ by at most one tick from then on
pub record StaysNear (k : Correction) (drifts : ℕ → Drift) (past : List ℕ) (target most : ℕ) : Type 0 where
  pub moment : ℕ
  pub within : moment ≤ most
  pub equal : last_counter (drifted k moment drifts target past) ≡ target_drifted k.cycle moment drifts target
  pub near : (n : ℕ) → moment ≤ n → IsNear k.cycle (last_counter (drifted k n drifts target past)) (target_drifted k.cycle n drifts target)

-- a step of the clock at this tick, and none at other ticks
abbrev pub one_step : ℕ → Drift → ℕ → Drift
one_step tick step n = if n == tick then step else Even

-- a step of the clock at every third tick, and none at other ticks
abbrev pub each_third : Drift → ℕ → Drift
each_third step n = if n % 3 == 2 then step else Even
