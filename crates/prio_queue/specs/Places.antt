-- What is stored of one priority request, in terms of the definitions.
use Rattle.std.specs.Prelude.{ℕ, zero, suc, ◌≤◌, ◌==◌, ◌&&◌, not, nat_le, Bool, false, if◌then◌else◌, Option, Some, None}
use Rattle.sig_tables.specs.declared.tables.Tables.{Tables}
use Rattle.sig_tables.specs.Priority.{Place, stays_until, has_stayed, leader_for}
use Rattle.prio_queue.specs.declared.place.Place.{Place as Kept}

-- the place that a stored request represents in the definitions
abbrev pub place_meant : Kept → Place
place_meant p = record { ticks = p.ticks; request = p.request }

-- the place that a stored request represents, if there is one
abbrev pub meant : Option Kept → Option Place
meant None = None
meant (Some p) = Some (place_meant p)

-- the request was cancelled before it departed
abbrev pub was_cancelled : Option Kept → Bool
was_cancelled None = false
was_cancelled (Some p) = p.cancelled

-- the request was given after at most `ticks` ticks
abbrev pub IsGivenBy : ℕ → Option Kept → Type 0
IsGivenBy ticks None = Unit {0}
IsGivenBy ticks (Some p) = p.ticks ≤ ticks

-- the request departs at tick `until` or before
abbrev pub StaysWithin : ℕ → Option Kept → Type 0
StaysWithin until None = Unit {0}
StaysWithin until (Some p) = stays_until (place_meant p) ≤ until

-- the number of a request; none for 0
abbrev pub some_number : ℕ → Option ℕ
some_number zero = None
some_number (suc k) = Some (suc k)

-- the number is k
abbrev pub is_number : Option ℕ → ℕ → Bool
is_number None k = false
is_number (Some j) k = j == k

-- the leader among the others and a stored request, which counts only if it is live and for a coordinated phase of
-- pattern n
abbrev pub leader_by : Tables → ℕ → ℕ → Option Kept → Option Place → Option Place
leader_by t n ticks kept others =
    if has_stayed ticks (meant kept) && not (was_cancelled kept) then leader_for t n (meant kept) others else others

-- the state of a stored request after `ticks` ticks, by whether it was active at the last of them
abbrev pub kept_state : Option Kept → ℕ → Bool → ℕ
kept_state None ticks active = 0
kept_state (Some p) ticks active =
    if p.cancelled then 4 else if nat_le ticks (stays_until (place_meant p)) then (if active then 2 else 1) else 3
