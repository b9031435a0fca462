-- What a moment meets, read one by one: a local zero has come once the bound is over, and counter and target are then equal.
use Rattle.std.proofs.Common.{◌≡◌, ◌⊎◌, inl, inr, ℕ, ◌+◌, ◌<◌, ◌≤◌, not, ◌&&◌, ◌||◌, ◌==◌, nat_le, nat_lt, Bool, true, false, if◌then◌else◌, List, ◌∷◌, refl, sym, ◌∙◌, arith}
use Rattle.std.proofs.lemmas.Bool.{false≢true, eqb-true, ltb-true, cases_order}
use Rattle.sig_tables.specs.declared.tables.Tables.{Tables}
use Rattle.sig_tables.specs.Slots.{is_defined, cycle_time}
use Rattle.sig_tables.specs.Counting.{tick_later}
use Rattle.sig_tables.specs.Past.{Moment}
use Rattle.coordination_laws.proofs.Looks.{fits}
use Rattle.coordination_laws.proofs.Steps.{later-within}
use Rattle.coordination_laws.specs.Drifting.{IsNear}
use Rattle.plan_facts.specs.Disturbances.{Drift, drifts, quiet_for}
use Rattle.plan_facts.specs.Bounds.{zero_bound, offset_bound}
use Rattle.plan_facts.specs.Meets.{MeetsNow, is_zero, is_green, is_met, is_near, has_zero, zero_target, can_follow, holds_since}

pub green-read : (d : Drift) (m : Moment) (past : List Moment) → MeetsNow d (m ∷ past) → is_zero (m ∷ past) ≡ true
    → is_green m.frame.mode m.tables m.frame.veh ≡ true
green-read d m past meets zero = pick (is_zero (m ∷ past)) (is_green m.frame.mode m.tables m.frame.veh) zero meets.green
  where
    pick : (b g : Bool) → b ≡ true → (if b then g else true) ≡ true → g ≡ true
    pick true g e h = h
    pick false g e h = absurd (false≢true e)

pub zero-read : (d : Drift) (m : Moment) (past : List Moment) → MeetsNow d (m ∷ past) → is_defined m.tables m.command ≡ true
    → zero_bound (m ∷ past) m.tables m.command ≤ quiet_for d (m ∷ past) → has_zero d (m ∷ past) ≡ true
zero-read d m past meets defined long =
    pick (is_defined m.tables m.command) (has_zero d (m ∷ past)) (quiet_for d (m ∷ past)) (zero_bound (m ∷ past) m.tables m.command)
    defined long meets.zero
  where
    pick : (a b : Bool) (quiet most : ℕ) → a ≡ true → most ≤ quiet → (if a then (if b then true else nat_lt quiet most) else true) ≡ true → b ≡ true
    pick true true quiet most e le h = refl
    pick true false quiet most e le h = let less : quiet < most = ltb-true quiet most h in absurd (omega arith)
    pick false b quiet most e le h = absurd (false≢true e)

-- once the bound is over, counter and target are near
is-near : (d : Drift) (m : Moment) (past : List Moment) → MeetsNow d (m ∷ past) → is_defined m.tables m.command ≡ true
    → has_zero d (m ∷ past) ≡ true → can_follow d m.tables ≡ true
    → offset_bound d (m ∷ past) m.tables m.command (zero_target d (m ∷ past)) ≤ quiet_for d (m ∷ past) → is_near d m ≡ true
is-near d m past meets defined zero follows long =
    pick (is_defined m.tables m.command) (can_follow d m.tables) (has_zero d (m ∷ past))
    (nat_le bound (quiet_for d (m ∷ past))) (is_near d m)
    (if is_met m && nat_le (quiet_for d (m ∷ past)) bound then true else holds_since d bound past)
    defined follows zero (fits _ _ long) meets.offset
  where
    bound : ℕ
    bound = offset_bound d (m ∷ past) m.tables m.command (zero_target d (m ∷ past))

    pick : (a f z l n x : Bool) → a ≡ true → f ≡ true → z ≡ true → l ≡ true
        → (if a && f && z then (if l then (if n && z then x else false) else true) else true) ≡ true → n ≡ true
    pick true true true true true x e i j k h = refl
    pick true true true true false x e i j k h = absurd (false≢true h)
    pick true true true false n x e i j k h = absurd (false≢true k)
    pick true true false l n x e i j k h = absurd (false≢true j)
    pick true false z l n x e i j k h = absurd (false≢true i)
    pick false f z l n x e i j k h = absurd (false≢true e)

-- a clock that keeps time can be followed
even-follows : (d : Drift) (t : Tables) → drifts d ≡ false → can_follow d t ≡ true
even-follows d t none = by (d.gain == 0) (d.lose == 0) none
  where
    by : (a b : Bool) → (not a || not b) ≡ false → (a || t.unit.mode == 3) ≡ true
    by true b h = refl
    by false b h = absurd (false≢true (sym h))

pub offset-read : (d : Drift) (m : Moment) (past : List Moment) → MeetsNow d (m ∷ past) → is_defined m.tables m.command ≡ true
    → has_zero d (m ∷ past) ≡ true → drifts d ≡ false
    → offset_bound d (m ∷ past) m.tables m.command (zero_target d (m ∷ past)) ≤ quiet_for d (m ∷ past)
    → m.frame.counter ≡ m.frame.target
offset-read d m past meets defined zero none long =
    eqb-true m.frame.counter m.frame.target
    (equal (is_met m) (drifts d)
    (tick_later (cycle_time m.tables m.command) m.frame.counter == m.frame.target || tick_later (cycle_time m.tables m.command) m.frame.target == m.frame.counter)
    none (is-near d m past meets defined zero (even-follows d m.tables none) long))
  where
    equal : (a b c : Bool) → b ≡ false → (a || b && c) ≡ true → a ≡ true
    equal true b c e h = refl
    equal false false c e h = h
    equal false true c e h = absurd (false≢true (sym e))

pub near-read : (d : Drift) (m : Moment) (past : List Moment) → MeetsNow d (m ∷ past) → is_defined m.tables m.command ≡ true
    → has_zero d (m ∷ past) ≡ true → can_follow d m.tables ≡ true
    → offset_bound d (m ∷ past) m.tables m.command (zero_target d (m ∷ past)) ≤ quiet_for d (m ∷ past)
    → IsNear (cycle_time m.tables m.command) m.frame.counter m.frame.target
near-read d m past meets defined zero follows long =
    by (m.frame.counter == m.frame.target) (drifts d)
    (tick_later (cycle_time m.tables m.command) m.frame.counter == m.frame.target)
    (tick_later (cycle_time m.tables m.command) m.frame.target == m.frame.counter)
    refl refl refl (is-near d m past meets defined zero follows long)
  where
    by : (a b x y : Bool) → (m.frame.counter == m.frame.target) ≡ a
        → (tick_later (cycle_time m.tables m.command) m.frame.counter == m.frame.target) ≡ x
        → (tick_later (cycle_time m.tables m.command) m.frame.target == m.frame.counter) ≡ y → (a || b && (x || y)) ≡ true
        → IsNear (cycle_time m.tables m.command) m.frame.counter m.frame.target
    by true b x y e f g h = inl (eqb-true m.frame.counter m.frame.target e)
    by false true true y e f g h = inr (inl (eqb-true (tick_later (cycle_time m.tables m.command) m.frame.counter) m.frame.target f))
    by false true false true e f g h = inr (inr (eqb-true (tick_later (cycle_time m.tables m.command) m.frame.target) m.frame.counter g))
    by false true false false e f g h = absurd (false≢true h)
    by false false x y e f g h = absurd (false≢true h)

-- at local zero the target is then 0, 1 or the last of the cycle
pub near-zero : (cycle target : ℕ) → 1 < cycle → target < cycle → IsNear cycle 0 target → (target ≡ 0) ⊎ ((target ≡ 1) ⊎ (target + 1 ≡ cycle))
near-zero cycle target some below (inl e) = inl (sym e)
near-zero cycle target some below (inr (inl e)) = inr (inl (sym e ∙ later-within cycle 0 (omega arith)))
near-zero cycle target some below (inr (inr e)) = elim (cases_order (target + 1) cycle) [
  | inl last ↦ inr (inr last)
  | inr (inl less) ↦ absurd (let up : target + 1 ≡ 0 = sym (later-within cycle target less) ∙ e in omega arith)
  | inr (inr more) ↦ absurd (omega arith)
]
