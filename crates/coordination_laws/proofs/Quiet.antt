-- Disturbed and quiet ticks, and what they owe at once.
use Rattle.std.proofs.Common.{◌≡◌, ℕ, ◌+◌, ◌≤◌, ◌<◌, Bool, true, false, nat_lt, max, ◌&&◌, if◌then◌else◌, List, [], ◌∷◌, refl, sym, ◌∙◌, ap, arith}
use Rattle.std.proofs.lemmas.Bool.{false≢true, lt-ltb, ltb-true}
use Rattle.sig_types.specs.declared.frame.Mode.{Mode}
use Rattle.sig_types.specs.declared.frame.Mode.TheVariants.{Coord}
use Rattle.sig_types.specs.declared.frame.Frame.{Frame}
use Rattle.sig_tables.specs.declared.tables.Tables.{Tables}
use Rattle.sig_tables.specs.Slots.{is_defined}
use Rattle.sig_tables.specs.Walking.{is_local_zero}
use Rattle.sig_tables.specs.Past.{Moment}
use Rattle.plan_facts.specs.Disturbances.{Drift, is_disturbed, quiet_for}
use Rattle.plan_facts.specs.Greatest.{pickup_bound}
use Rattle.plan_facts.specs.Bounds.{longest_cycle, zero_bound, offset_bound}
use Rattle.plan_facts.specs.Meets.{is_zero, is_some, is_green, zero_or_now, first_zero, has_zero}
use Rattle.plan_facts.specs.Meets.{zero_target, zero_within, offset_within, can_follow, green_at_zero, zero_in_time, offset_in_time}
use Rattle.coordination_laws.specs.Versions.{IsVersion}
use Rattle.coordination_laws.proofs.Greatest.{pickup-same}
use Rattle.coordination_laws.proofs.SearchingInTime.{least-bound}
use Rattle.coordination_laws.specs.Facts.{is_coord}

-- at a disturbance no local zero has come since
pub disturbed-none : (d : Drift) (m : Moment) (past : List Moment) → is_disturbed d (m ∷ past) ≡ true → has_zero d (m ∷ past) ≡ false
disturbed-none d m past e = ap (λ (b : Bool). is_some (if b then [] else zero_or_now (first_zero d past) (m ∷ past))) e

-- nor where it has been quiet for no tick
pub quiet-zero : (d : Drift) (past : List Moment) → quiet_for d past ≡ 0 → has_zero d past ≡ false
quiet-zero d [] e = refl
quiet-zero d (m ∷ past) e = pick (is_disturbed d (m ∷ past)) refl e
  where
    pick : (b : Bool) → is_disturbed d (m ∷ past) ≡ b → (if b then 0 else quiet_for d past + 1) ≡ 0 → has_zero d (m ∷ past) ≡ false
    pick true h z = disturbed-none d m past h
    pick false h z = absurd (omega arith)

-- a moment that is not coordinated is not a local zero
pub elsewhere-zero : (mode : Mode) (c : ℕ) (f : Frame) → is_coord mode ≡ false → is_local_zero mode c f ≡ false
elsewhere-zero (Coord n) c f e = absurd (false≢true (sym e))
elsewhere-zero mode c f e = refl

-- within how many ticks a local zero comes is some, and no less than the bounds that it is made of
pub bound-some : (past : List Moment) (t : Tables) (n : ℕ) → 0 < zero_bound past t n
bound-some past t n = numbers _ _ (least-bound past)
  where
    numbers : (a b : ℕ) → 4 ≤ a → 0 < max a b
    numbers a b h = omega arith

pub bound-pickup : (past : List Moment) (t : Tables) (n : ℕ) → pickup_bound past ≤ zero_bound past t n
bound-pickup past t n = numbers (pickup_bound past) (longest_cycle t n)
  where
    numbers : (a b : ℕ) → a ≤ max a b
    numbers a b = omega arith

pub bound-cycle : (past : List Moment) (t : Tables) (n : ℕ) → longest_cycle t n ≤ zero_bound past t n
bound-cycle past t n = numbers (pickup_bound past) (longest_cycle t n)
  where
    numbers : (a b : ℕ) → b ≤ max a b
    numbers a b = omega arith

pub bound-same : (m : Moment) (past : List Moment) (t : Tables) (n : ℕ) → IsVersion m.tables past → zero_bound (m ∷ past) t n ≡ zero_bound past t n
bound-same m past t n h = ap (λ (x : ℕ). max x (longest_cycle t n)) (pickup-same m past h)

-- so a local zero is not overdue
pub within-soon : (d : Drift) (most : ℕ) (past : List Moment) → quiet_for d past < most → zero_within d most past ≡ true
within-soon d most past h = pick (has_zero d past)
  where
    pick : (b : Bool) → (if b then true else nat_lt (quiet_for d past) most) ≡ true
    pick true = refl
    pick false = lt-ltb (quiet_for d past) most h

pub within-has : (d : Drift) (most : ℕ) (past : List Moment) → has_zero d past ≡ true → zero_within d most past ≡ true
within-has d most past h = ap (λ (b : Bool). if b then true else nat_lt (quiet_for d past) most) h

pub soon-within : (d : Drift) (most : ℕ) (past : List Moment) → has_zero d past ≡ false → zero_within d most past ≡ true → quiet_for d past < most
soon-within d most past none h = ltb-true (quiet_for d past) most (sym (ap (λ (b : Bool). if b then true else nat_lt (quiet_for d past) most) none) ∙ h)

-- what the last moment owes, from these
pub zero-owed : (d : Drift) (m : Moment) (past : List Moment) → zero_within d (zero_bound (m ∷ past) m.tables m.command) (m ∷ past) ≡ true
    → zero_in_time d (m ∷ past) ≡ true
zero-owed d m past h = pick (is_defined m.tables m.command)
  where
    pick : (b : Bool) → (if b then zero_within d (zero_bound (m ∷ past) m.tables m.command) (m ∷ past) else true) ≡ true
    pick true = h
    pick false = refl

pub offset-owed : (d : Drift) (m : Moment) (past : List Moment)
    → (can_follow d m.tables ≡ true → has_zero d (m ∷ past) ≡ true
    → offset_within d (offset_bound d (m ∷ past) m.tables m.command (zero_target d (m ∷ past))) (m ∷ past) ≡ true)
    → offset_in_time d (m ∷ past) ≡ true
offset-owed d m past h = pick (is_defined m.tables m.command) (can_follow d m.tables) (has_zero d (m ∷ past)) refl refl
  where
    pick : (a b c : Bool) → can_follow d m.tables ≡ b → has_zero d (m ∷ past) ≡ c
        → (if a && b && c then offset_within d (offset_bound d (m ∷ past) m.tables m.command (zero_target d (m ∷ past))) (m ∷ past) else true) ≡ true
    pick true true true f e = h f e
    pick true true false f e = refl
    pick true false true f e = refl
    pick true false false f e = refl
    pick false true true f e = refl
    pick false true false f e = refl
    pick false false true f e = refl
    pick false false false f e = refl

pub not-defined-zero : (d : Drift) (m : Moment) (past : List Moment) → is_defined m.tables m.command ≡ false → zero_in_time d (m ∷ past) ≡ true
not-defined-zero d m past e = ap (λ (b : Bool). if b then zero_within d (zero_bound (m ∷ past) m.tables m.command) (m ∷ past) else true) e

pub not-defined-offset : (d : Drift) (m : Moment) (past : List Moment) → is_defined m.tables m.command ≡ false → offset_in_time d (m ∷ past) ≡ true
not-defined-offset d m past e = pick (is_defined m.tables m.command) (can_follow d m.tables) (has_zero d (m ∷ past)) e
  where
    pick : (a b c : Bool) → a ≡ false
        → (if a && b && c then offset_within d (offset_bound d (m ∷ past) m.tables m.command (zero_target d (m ∷ past))) (m ∷ past) else true) ≡ true
    pick true b c h = absurd (false≢true (sym h))
    pick false true true h = refl
    pick false true false h = refl
    pick false false true h = refl
    pick false false false h = refl

pub no-zero-green : (m : Moment) (past : List Moment) → is_zero (m ∷ past) ≡ false → green_at_zero (m ∷ past) ≡ true
no-zero-green m past e = ap (λ (b : Bool). if b then is_green m.frame.mode m.tables m.frame.veh else true) e
