-- Windows and bands as times of the cycle (FHWA Signal Timing Manual: bandwidth), in ticks. The time of a vehicle is
-- the time at which it passes its first cabinet.
use Rattle.std.specs.Prelude.{ℕ, ◌+◌, ◌-◌, ◌%◌, ◌<◌, ◌≤◌, ◌≡◌, ◌&&◌, nat_lt, Bool, true, false, if◌then◌else◌, List, [], ◌∷◌, Option, Some, None}
use Rattle.sig_tables.specs.declared.tables.Tables.{Tables}
use Rattle.sig_tables.specs.Slots.{coordinated_phase, force_point, cycle_time}
use Rattle.sig_tables.specs.Clock.{offset_time, shift_time, target_at}
use Rattle.band_report.specs.declared.band.Band.{Band}
use Rattle.band_report.specs.Street.{Passage}

-- the time is in the window of the coordinated phase of ring `r`: the target of the counter at this time is below the
-- force point of this phase
abbrev pub in_window : Tables → ℕ → ℕ → ℕ → Bool
in_window t n r time = nat_lt (target_at t n time) (force_point t n (coordinated_phase t n r))

-- the time is in the window: modulo the cycle it is `counter` ticks after the offset minus the shift, and `counter`
-- is below the force point
pub record InWindow (t : Tables) (n r time : ℕ) : Type 0 where
  pub counter : ℕ
  pub below : counter < force_point t n (coordinated_phase t n r)
  pub there : (time + shift_time t n) % cycle_time t n ≡ (offset_time t n + counter) % cycle_time t n

-- a vehicle with this time passes the cabinet in its window
abbrev pub finds_window : ℕ → ℕ → ℕ → Passage → Bool
finds_window n r time c = in_window c.tables n r (time + c.after)

-- the time is open: a vehicle with this time passes each cabinet in its window
abbrev pub is_open : ℕ → ℕ → List Passage → ℕ → Bool
is_open n r [] time = true
is_open n r (c ∷ more) time = finds_window n r time c && is_open n r more time

-- the number of the first cabinet that a vehicle with this time doesn't pass in its window
abbrev pub first_closed : ℕ → ℕ → List Passage → ℕ → Option ℕ
first_closed n r [] time = None
first_closed n r (c ∷ more) time = if finds_window n r time c then first_closed n r more time else Some c.number

-- a band: `width` open times in a row, from `start` on. It starts within the cycle and is shorter than the cycle
pub record IsBand (n r : ℕ) (street : List Passage) (cycle start width : ℕ) : Type 0 where
  pub starts : start < cycle
  pub some : 0 < width
  pub fewer : width < cycle
  pub all_open : (tick : ℕ) → tick < width → is_open n r street (start + tick) ≡ true

-- the widest band: no band is wider, and no band of the same width starts earlier. `before` is the first cabinet that
-- a vehicle just before the band doesn't pass in its window; `after` is the same for a vehicle just after the band
pub record IsGreatest (n r : ℕ) (street : List Passage) (cycle : ℕ) (band : Band) : Type 0 where
  pub is : IsBand n r street cycle band.start band.width
  pub widest : (start width : ℕ) → IsBand n r street cycle start width → width ≤ band.width
  pub first : (start : ℕ) → IsBand n r street cycle start band.width → band.start ≤ start
  pub before : first_closed n r street (band.start + cycle - 1) ≡ Some band.before
  pub after : first_closed n r street (band.start + band.width) ≡ Some band.after

-- the report on a street: its widest band, or None if no time is open
abbrev pub IsReport : ℕ → ℕ → List Passage → ℕ → Option Band → Type 0
IsReport n r street cycle None = (time : ℕ) → time < cycle → is_open n r street time ≡ false
IsReport n r street cycle (Some band) = IsGreatest n r street cycle band
