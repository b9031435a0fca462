-- What is known of the plan of a defined pattern of consistent tables, in ticks (FHWA Signal Timing Manual: cycle,
-- split, offset, force-off).
use Rattle.std.specs.Prelude.{ℕ, ◌≡◌, ◌≢◌, ◌≤◌, ◌<◌, ◌⊎◌, ◌+◌, ◌*◌, true, false}
use Rattle.sig_types.specs.Phases.{is_phase}
use Rattle.sig_tables.specs.declared.tables.Tables.{Tables}
use Rattle.sig_tables.specs.Tables.{ring_of, is_enabled, clearance}
use Rattle.sig_tables.specs.Sides.{are_of_one_side, is_used}
use Rattle.sig_tables.specs.Cells.{pattern_of}
use Rattle.sig_tables.specs.Slots.{cycle_time, is_omitted, is_coordinated, coordinated_phase, slot_start, slot_end, side_end, least_service, zero_point, force_point, window, permissive_end}

-- pattern n has a split and a sequence in use, and an offset below its cycle (both in seconds)
pub record NamesThere (t : Tables) (n : ℕ) : Type 0 where
  pub least_split : 1 ≤ (pattern_of t n).split
  pub greatest_split : (pattern_of t n).split ≤ 32
  pub sequence : is_phase (pattern_of t n).sequence ≡ true
  pub used : is_used t (pattern_of t n).sequence ≡ true
  pub offset : (pattern_of t n).offset < (pattern_of t n).cycle

-- pattern n coordinates exactly one phase of each ring, and omits neither
pub record Coordinates (t : Tables) (n : ℕ) : Type 0 where
  pub coordinated : (r : ℕ) → (r ≡ 1) ⊎ (r ≡ 2) → is_coordinated t n (coordinated_phase t n r) ≡ true
  pub ring : (r : ℕ) → (r ≡ 1) ⊎ (r ≡ 2) → ring_of t (coordinated_phase t n r) ≡ r
  pub served : (r : ℕ) → (r ≡ 1) ⊎ (r ≡ 2) → is_omitted t n (coordinated_phase t n r) ≡ false
  pub alone : (q : ℕ) → is_coordinated t n q ≡ true → q ≡ coordinated_phase t n (ring_of t q)

-- the slots of pattern n lie within the cycle, and slots of one ring don't overlap. Local zero is in both coordinated
-- slots. Each other slot ends by local zero, or starts after the coordinated slot of its ring
pub record SlotsLie (t : Tables) (n : ℕ) : Type 0 where
  pub in_cycle : (p : ℕ) → is_enabled t p ≡ true → slot_end t n p ≤ cycle_time t n
  pub zero_in_cycle : zero_point t n < cycle_time t n
  pub at_zero : (q : ℕ) → is_coordinated t n q ≡ true → (slot_start t n q ≤ zero_point t n) × (zero_point t n < slot_end t n q)
  pub apart : (p q : ℕ) → is_enabled t p ≡ true → is_enabled t q ≡ true → ring_of t p ≡ ring_of t q → p ≢ q
      → (slot_end t n p ≤ slot_start t n q) ⊎ (slot_end t n q ≤ slot_start t n p)
  pub clear_of_zero : (p q : ℕ) → is_enabled t p ≡ true → is_coordinated t n q ≡ true → ring_of t p ≡ ring_of t q → p ≢ q
      → (slot_end t n p ≤ zero_point t n) ⊎ ((slot_end t n q ≤ slot_start t n p) × (zero_point t n < slot_start t n p))

-- both rings cross each barrier together: of two barrier groups, one has ended in both rings when a slot of the other
-- starts
pub record SidesLie (t : Tables) (n : ℕ) : Type 0 where
  pub apart : (p q : ℕ) → is_enabled t p ≡ true → is_enabled t q ≡ true → are_of_one_side t p q ≡ false
      → (side_end t n p ≤ slot_start t n q) ⊎ (side_end t n q ≤ slot_start t n p)
  pub one_end : (p q : ℕ) → are_of_one_side t p q ≡ true → side_end t n p ≡ side_end t n q

-- from local zero to the end of the window both coordinated phases may stay Green. The window is long enough for the
-- waits of one cycle, for its skips, and for the minimum service of each coordinated phase plus the ticks that one
-- cycle may skip
pub record WindowHolds (t : Tables) (n : ℕ) : Type 0 where
  pub some : 1 ≤ window t n
  pub stands : t.unit.add ≤ window t n
  pub skips : 2 * t.unit.subtract ≤ window t n
  pub service : (q : ℕ) → is_coordinated t n q ≡ true → t.unit.subtract + least_service t q ≤ window t n

-- a coordinated phase may end from the end of the window on, and its clearance after its force point ends within the
-- cycle
pub record HeldForce (t : Tables) (n q : ℕ) : Type 0 where
  pub window : window t n ≤ force_point t n q
  pub clears : force_point t n q + clearance t q ≤ cycle_time t n
  pub last : force_point t n q + 30 ≤ cycle_time t n

-- a phase that isn't coordinated can have its minimum service by its force point, and its clearance after that ends
-- within the cycle
pub record OtherForce (t : Tables) (n p : ℕ) : Type 0 where
  pub served : least_service t p ≤ force_point t n p
  pub clears : force_point t n p + clearance t p ≤ cycle_time t n
  pub permissive : permissive_end t n p + least_service t p ≡ force_point t n p

-- every force point lies in the cycle, and is 0 for a disabled phase. The permissive end of a phase is 0 if the phase
-- is disabled, coordinated or omitted
pub record Untimed (t : Tables) (n : ℕ) : Type 0 where
  pub within : (p : ℕ) → force_point t n p < cycle_time t n
  pub disabled : (p : ℕ) → is_enabled t p ≡ false → (force_point t n p ≡ 0) × (permissive_end t n p ≡ 0)
  pub coordinated : (q : ℕ) → is_coordinated t n q ≡ true → permissive_end t n q ≡ 0
  pub omitted : (p : ℕ) → is_omitted t n p ≡ true → permissive_end t n p ≡ 0

-- all that is known of the plan of pattern n
pub record PlanHolds (t : Tables) (n : ℕ) : Type 0 where
  pub names : NamesThere t n
  pub coordinates : Coordinates t n
  pub slots : SlotsLie t n
  pub sides : SidesLie t n
  pub window : WindowHolds t n
  pub held : (q : ℕ) → is_coordinated t n q ≡ true → HeldForce t n q
  pub other : (p : ℕ) → is_enabled t p ≡ true → is_coordinated t n p ≡ false → is_omitted t n p ≡ false → OtherForce t n p
  pub untimed : Untimed t n
