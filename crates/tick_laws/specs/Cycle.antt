-- A coordinated cabinet between two local zeros, in numbers: conditions on a phase at a counter of the cycle. They
-- ensure that at local zero both coordinated phases are Green and every other phase is off (FHWA Signal Timing Manual:
-- force-off, permissive period). All times are in ticks; c is the counter, and `run` counts the last frames in a row
-- that show the same colour, this one included.
use Rattle.std.specs.Prelude.{ℕ, ◌≤◌, ◌+◌, ◌-◌, max}

-- the times of a phase that isn't coordinated: its service and its clearance last at least a tick, and its clearance
-- after a force-off ends within the cycle
pub record OtherTimes (cycle force clear service : ℕ) : Type 0 where
  pub some : 1 ≤ service
  pub clearing : 1 ≤ clear
  pub clears : force + clear ≤ cycle

-- the times of a coordinated phase: its force point isn't before the end of the window
pub record HeldTimes (window force : ℕ) : Type 0 where
  pub after : window ≤ force

-- a phase can begin `wait` ticks after counter d: the window is over, and its minimum service ends by its force point
pub record Fits (window force service d wait : ℕ) : Type 0 where
  pub after : window ≤ d
  pub room : d + wait + service ≤ force

-- a Green of a phase that isn't coordinated, shown for `run` frames: its minimum service ends by its force point
pub record GreenInTime (window force service c run : ℕ) : Type 0 where
  pub after : window ≤ c
  pub room : c + max 1 (service + 1 - run) ≤ force

-- the clearance of a phase that isn't coordinated ends within the cycle; `rest` of its ticks are left, this one
-- included
pub record ClearsInTime (cycle window c rest : ℕ) : Type 0 where
  pub after : window ≤ c
  pub room : c + rest ≤ cycle

-- a coordinated phase in clearance is past its force point, and its clearance and its red revert end within the cycle
pub record ReturnsInTime (cycle force revert c rest : ℕ) : Type 0 where
  pub after : force ≤ c
  pub room : c + rest + revert ≤ cycle

-- a coordinated phase that has been Red for `run` frames is past its force point, and its red revert ends before the
-- cycle does
pub record RestsInTime (cycle force revert c run : ℕ) : Type 0 where
  pub after : force ≤ c
  pub room : c + (revert - run) + 1 ≤ cycle
