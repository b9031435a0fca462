-- The counters since the pickup, with one frame more.
use Rattle.std.proofs.Common.{◌≡◌, ◌<◌, ◌≤◌, ◌+◌, ◌-◌, ◌%◌, min, ℕ, Bool, true, false, ◌==◌}
use Rattle.std.proofs.Common.{◌&&◌, nat_le, if◌then◌else◌, List, [], ◌∷◌, refl, sym, arith}
use Rattle.std.proofs.lemmas.Bool.{false≢true, and_parts, leb-true}
use Rattle.sig_types.specs.declared.frame.Mode.TheVariants.{Coord}
use Rattle.sig_tables.specs.declared.tables.Tables.{Tables}
use Rattle.std.proofs.lemmas.Nat.{mod_below}
use Rattle.sig_tables.specs.Tables.{is_enabled, clearance}
use Rattle.sig_tables.specs.Cells.{pattern_of}
use Rattle.sig_tables.specs.Slots.{is_defined, cycle_time, slot_end, side_end, side_clearance, whole_cycles, zero_point, force_point, coordinated_phase, window}
use Rattle.sig_tables.specs.Modes.{same_mode}
use Rattle.sig_tables.specs.Choosing.{is_in_step}
use Rattle.sig_tables.specs.Past.{Moment}
use Rattle.sig_tables.specs.Looking.{last_frame}
use Rattle.sig_tables.specs.Counters.{counters_since}

swapped : (a b : Bool) (xs : List ℕ) → (a && b) ≡ true → (if b && a then xs else []) ≡ xs
swapped true true xs e = refl
swapped true false xs e = absurd (false≢true e)
swapped false b xs e = absurd (false≢true e)

shut : (a b : Bool) (xs : List ℕ) → (a && b) ≡ false → (if b && a then xs else []) ≡ []
shut true true xs e = absurd (false≢true (sym e))
shut true false xs e = refl
shut false true xs e = refl
shut false false xs e = refl

-- a coordinated frame adds its counter
pub counters-more : (n v : ℕ) (m : Moment) (past : List Moment) → is_in_step m.frame v n ≡ true
    → counters_since n v (m ∷ past) ≡ m.frame.counter ∷ counters_since n v past
counters-more n v m past e = swapped (same_mode m.frame.mode (Coord n)) (m.frame.version == v) _ e

-- the last coordinated frame is the first of them
pub counters-head : (n v : ℕ) (past : List Moment) → is_in_step (last_frame past) v n ≡ true
    → (before : List ℕ) × (counters_since n v past ≡ (last_frame past).counter ∷ before)
counters-head n v [] e = absurd (false≢true e)
counters-head n v (m ∷ past) e = (counters_since n v past, counters-more n v m past e)

-- and there are none where it is not coordinated
pub counters-none : (n v : ℕ) (past : List Moment) → is_in_step (last_frame past) v n ≡ false → counters_since n v past ≡ []
counters-none n v [] e = refl
counters-none n v (m ∷ past) e = shut (same_mode m.frame.mode (Coord n)) (m.frame.version == v) _ e

-- the coordinated frame has the version
pub step-version : (n v : ℕ) (past : List Moment) → is_in_step (last_frame past) v n ≡ true → ((last_frame past).version == v) ≡ true
step-version n v past e = (and_parts (same_mode (last_frame past).mode (Coord n)) ((last_frame past).version == v) e).1

-- a pattern that is defined has a cycle
pub some-cycle : (t : Tables) (n : ℕ) → is_defined t n ≡ true → 0 < cycle_time t n
some-cycle t n d =
    let parts = and_parts (nat_le 1 n && nat_le n 48) (nat_le 1 (pattern_of t n).cycle) d in
    let least : 1 ≤ (pattern_of t n).cycle = leb-true 1 (pattern_of t n).cycle parts.1 in
    omega arith

-- the force points and the window of a pattern that is defined are within its cycle
force-within : (t : Tables) (n p : ℕ) → 0 < cycle_time t n → force_point t n p < cycle_time t n
force-within t n p some = split (is_enabled t p)
  where
    split : (b : Bool)
        → (if b
        then (min (slot_end t n p + whole_cycles t n p - clearance t p) (side_end t n p + whole_cycles t n p - side_clearance t p) - zero_point t n)
        % cycle_time t n
        else 0) < cycle_time t n
    split true = mod_below _ (cycle_time t n) some
    split false = some

pub window-within : (t : Tables) (n : ℕ) → is_defined t n ≡ true → window t n < cycle_time t n
window-within t n d =
    let some : 0 < cycle_time t n = some-cycle t n d in
    let below : force_point t n (coordinated_phase t n 1) < cycle_time t n = force-within t n (coordinated_phase t n 1) some in
    omega arith
