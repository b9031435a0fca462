-- How the counter of a cycle changes from one tick to the next, for any target (FHWA Signal Timing Manual, offset
-- transition). Counters are in ticks from local zero.
use Rattle.std.specs.Prelude.{ℕ, ◌≡◌, ◌≤◌, ◌<◌, ◌+◌}

-- the counter changes from c to d: it waits within the window, advances by 1, advances by 2 up to the end of the
-- window, or returns to 0 at the end of the cycle
pub data Steps (cycle window c d : ℕ) : Type 0 where
  Stands : (same : d ≡ c) → (inside : c < window) → Steps cycle window c d
  Plain : (next : d ≡ c + 1) → (within : c + 1 < cycle) → Steps cycle window c d
  Skips : (over : d ≡ c + 2) → (inside : d ≤ window) → Steps cycle window c d
  Zero : (zero : d ≡ 0) → (last : c + 1 ≡ cycle) → Steps cycle window c d
