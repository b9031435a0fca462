-- What a pattern requires of the rings at a counter of the cycle: room for a phase before its force point, and the
-- force-off.
use Rattle.std.specs.Prelude.{ℕ, ◌+◌, ◌==◌, ◌&&◌, not, nat_le, Bool, true, false, if◌then◌else◌, Option, Some, None}
use Rattle.sig_tables.specs.declared.tables.Tables.{Tables}
use Rattle.sig_tables.specs.Tables.{clearance}
use Rattle.sig_tables.specs.Slots.{is_coordinated, split_time, force_point, least_service, window}

-- phase q has room in pattern n if it begins k ticks after this counter: the window is over, and the phase's minimum
-- service ends by its force point
abbrev pub fits : Tables → ℕ → ℕ → ℕ → ℕ → Bool
fits t n counter k q = nat_le (counter + k + least_service t q) (force_point t n q) && nat_le (window t n) counter

-- phase q has room if it begins k ticks after this counter; coordinated phases always have room, and so have all phases
-- without a pattern
abbrev pub has_room : Option ℕ → Tables → ℕ → ℕ → ℕ → Bool
has_room None t counter k q = true
has_room (Some n) t counter k q = if is_coordinated t n q then true else fits t n counter k q

-- the pattern forces phase p off: the counter has reached its force point, and it isn't a coordinated phase
abbrev pub is_forced_off : Option ℕ → Tables → ℕ → ℕ → Bool
is_forced_off None t counter p = false
is_forced_off (Some n) t counter p = not (is_coordinated t n p) && nat_le (force_point t n p) counter

-- the extension in ticks: how long an active priority request holds a coordinated phase past its force point
abbrev pub extension_of : Tables → ℕ → ℕ
extension_of t active = if active == 0 then 0 else t.unit.extension

-- pattern n allows its coordinated phase p to end: the counter has reached its force point plus the extension
abbrev pub is_released : Tables → ℕ → ℕ → ℕ → ℕ → Bool
is_released t n counter active p = nat_le (force_point t n p + extension_of t active) counter

-- force-offs are floating: a phase may end once its Green and its clearance fill its split, counted from its first tick
-- of Green. Its force point still forces it off
abbrev pub is_floating : Tables → Bool
is_floating t = t.unit.force_mode == 2

-- with floating force-offs, a Green of phase p that has lasted `green` ticks fills its split of pattern n together with
-- its clearance
abbrev pub has_floated : Tables → ℕ → ℕ → ℕ → Bool
has_floated t n p green = nat_le (split_time t n p) (green + clearance t p)
