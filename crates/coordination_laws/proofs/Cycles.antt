-- While coordinated, a local zero comes within the longest cycle after a pickup or a disturbance.
use Rattle.std.proofs.Common.{◌≡◌, ◌⊎◌, inl, inr, ℕ, ◌+◌, ◌≤◌, ◌<◌, Bool, true, false, nat_lt, if◌then◌else◌, List, [], ◌∷◌, refl, sym, ◌∙◌, ap, subst, arith}
use Rattle.std.proofs.lemmas.Bool.{lt-ltb}
use Rattle.sig_types.specs.declared.frame.Mode.TheVariants.{Coord}
use Rattle.sig_tables.specs.declared.tables.Tables.{Tables}
use Rattle.sig_tables.specs.Counting.{Correction, HasRoom, next_counter, begins_cycle, last_counter, most_a_cycle}
use Rattle.sig_tables.specs.Counters.{correction_of, counters_since}
use Rattle.sig_tables.specs.Past.{Moment}
use Rattle.coordination_laws.specs.Stepping.{KeepsLimits, to_zero, StepsOn}
use Rattle.coordination_laws.proofs.AnyTarget.{steps-on}
use Rattle.plan_facts.specs.Disturbances.{Drift, is_disturbed, quiet_for}
use Rattle.plan_facts.specs.Bounds.{longest_cycle}
use Rattle.plan_facts.specs.Meets.{is_zero, has_zero, zero_within}
use Rattle.coordination_laws.specs.Cycles.{counters, CountsOn, PicksUp, InCycle}
use Rattle.coordination_laws.proofs.Zeros.{quiet-none, quiet-more, has-older, has-now, counters-more, counters-end, zero-changes}

-- the counters at a coordinated tick, and at a pickup
pub counters-on : (t : Tables) (n : ℕ) (m l : Moment) (past : List Moment) → CountsOn t n m l past
    → counters n (m ∷ l ∷ past) ≡ next_counter (correction_of t n) (counters n (l ∷ past)) m.frame.target ∷ counters n (l ∷ past)
counters-on t n m l past on =
    counters-more n m.frame.version m (l ∷ past) on.mode refl
    ∙ ap (λ (v : ℕ). m.frame.counter ∷ counters_since n v (l ∷ past)) on.version
    ∙ ap (λ (c : ℕ). c ∷ counters n (l ∷ past)) on.counter

pub counters-at : (n : ℕ) (l : Moment) (past : List Moment) → l.frame.mode ≡ Coord n
    → counters n (l ∷ past) ≡ l.frame.counter ∷ counters_since n l.frame.version past
counters-at n l past mode = counters-more n l.frame.version l past mode refl

pub counters-pickup : (n : ℕ) (m l : Moment) (past : List Moment) → PicksUp n m l → counters n (m ∷ l ∷ past) ≡ 0 ∷ []
counters-pickup n m l past up =
    counters-more n m.frame.version m (l ∷ past) up.mode refl
    ∙ ap (λ (cs : List ℕ). m.frame.counter ∷ cs) (counters-end n m.frame.version l past up.apart)
    ∙ ap (λ (c : ℕ). c ∷ []) up.counter

-- what a disturbance leaves: within the longest cycle a local zero is expected
whole : (k : Correction) (cs : List ℕ) → to_zero k cs ≤ k.cycle + most_a_cycle k
whole k cs = omega arith

-- at a pickup
pub cycle-pickup : (d : Drift) (t : Tables) (n : ℕ) (m l : Moment) (past : List Moment) → HasRoom (correction_of t n) → PicksUp n m l
    → (is_zero (m ∷ l ∷ past) ≡ true) ⊎ (is_disturbed d (m ∷ l ∷ past) ≡ true) → InCycle d t n (m ∷ l ∷ past)
cycle-pickup d t n m l past room up why = record { mode = up.mode; limits = limits; due = choose (is_disturbed d (m ∷ l ∷ past)) refl why }
  where
    start : KeepsLimits (correction_of t n) (0 ∷ [])
    start = let some : 10 ≤ (correction_of t n).cycle = room.cycle in record { counter = omega arith; stood = omega arith }

    limits : KeepsLimits (correction_of t n) (counters n (m ∷ l ∷ past))
    limits = subst (λ (cs : List ℕ). KeepsLimits (correction_of t n) cs) (sym (counters-pickup n m l past up)) start

    choose : (b : Bool) → is_disturbed d (m ∷ l ∷ past) ≡ b → (is_zero (m ∷ l ∷ past) ≡ true) ⊎ (is_disturbed d (m ∷ l ∷ past) ≡ true)
        → (has_zero d (m ∷ l ∷ past) ≡ true) ⊎ (quiet_for d (m ∷ l ∷ past) + to_zero (correction_of t n) (counters n (m ∷ l ∷ past)) ≤ longest_cycle t n)
    choose true e h = let q = quiet-none d m (l ∷ past) e in
        let w = whole (correction_of t n) (counters n (m ∷ l ∷ past)) in inr (sums _ _ _ q w)
      where
        sums : (a b c : ℕ) → a ≡ 0 → b ≤ c → a + b ≤ c
        sums a b c h k = omega arith
    choose false e (inl zero) = inl (has-now d m (l ∷ past) e zero)
    choose false e (inr dist) = absurd (Rattle.std.proofs.lemmas.Bool.false≢true (sym e ∙ dist))

-- at a coordinated tick
pub cycle-step : (d : Drift) (t : Tables) (n : ℕ) (m l : Moment) (past : List Moment) → HasRoom (correction_of t n) → CountsOn t n m l past
    → InCycle d t n (l ∷ past) → InCycle d t n (m ∷ l ∷ past)
cycle-step d t n m l past room on before = record { mode = on.mode; limits = limits; due = choose (is_disturbed d (m ∷ l ∷ past)) refl before.due }
  where
    k : Correction
    k = correction_of t n

    older : List ℕ
    older = counters_since n l.frame.version past

    at : counters n (l ∷ past) ≡ l.frame.counter ∷ older
    at = counters-at n l past on.before

    steps : StepsOn k (counters n (l ∷ past)) m.frame.target
    steps = subst (λ (cs : List ℕ). StepsOn k cs m.frame.target) (sym at)
        (steps-on k l.frame.counter older m.frame.target room (subst (λ (cs : List ℕ). KeepsLimits k cs) at before.limits))

    now : counters n (m ∷ l ∷ past) ≡ next_counter k (counters n (l ∷ past)) m.frame.target ∷ counters n (l ∷ past)
    now = counters-on t n m l past on

    limits : KeepsLimits k (counters n (m ∷ l ∷ past))
    limits = subst (λ (cs : List ℕ). KeepsLimits k cs) (sym now) steps.keeps

    zero : begins_cycle (next_counter k (counters n (l ∷ past)) m.frame.target ∷ counters n (l ∷ past)) ≡ true → is_zero (m ∷ l ∷ past) ≡ true
    zero b = zero-changes n m l past on.mode on.before
        ∙ subst (λ (c : ℕ). begins_cycle (c ∷ l.frame.counter ∷ older) ≡ true) (sym on.counter)
        (subst (λ (cs : List ℕ). begins_cycle (next_counter k (counters n (l ∷ past)) m.frame.target ∷ cs) ≡ true) at b)

    choose : (b : Bool) → is_disturbed d (m ∷ l ∷ past) ≡ b
        → (has_zero d (l ∷ past) ≡ true) ⊎ (quiet_for d (l ∷ past) + to_zero k (counters n (l ∷ past)) ≤ longest_cycle t n)
        → (has_zero d (m ∷ l ∷ past) ≡ true) ⊎ (quiet_for d (m ∷ l ∷ past) + to_zero k (counters n (m ∷ l ∷ past)) ≤ longest_cycle t n)
    choose true e h = inr (sums _ _ _ (quiet-none d m (l ∷ past) e) (whole k (counters n (m ∷ l ∷ past))))
      where
        sums : (a b c : ℕ) → a ≡ 0 → b ≤ c → a + b ≤ c
        sums a b c h k = omega arith
    choose false e (inl older) = inl (has-older d m (l ∷ past) e older)
    choose false e (inr due) = elim steps.nearer [
      | inl b ↦ inl (has-now d m (l ∷ past) e (zero b))
      | inr less ↦ inr (nearer _ _ _ _ _ (quiet-more d m (l ∷ past) e)
          (subst (λ (cs : List ℕ). to_zero k cs < to_zero k (counters n (l ∷ past))) (sym now) less) due)
    ]
      where
        nearer : (a b x y c : ℕ) → a ≡ b + 1 → x < y → b + y ≤ c → a + x ≤ c
        nearer a b x y c h i j = omega arith

-- so a local zero is never overdue
pub cycle-in-time : (d : Drift) (t : Tables) (n most : ℕ) (past : List Moment) → InCycle d t n past → longest_cycle t n ≤ most
    → zero_within d most past ≡ true
cycle-in-time d t n most past cycle bound = pick (has_zero d past) refl cycle.due
  where
    some : 1 ≤ to_zero (correction_of t n) (counters n past)
    some = let below : last_counter (counters n past) < (correction_of t n).cycle = cycle.limits.counter in omega arith

    pick : (b : Bool) → has_zero d past ≡ b → (has_zero d past ≡ true) ⊎ (quiet_for d past + to_zero (correction_of t n) (counters n past) ≤ longest_cycle t n)
        → (if b then true else nat_lt (quiet_for d past) most) ≡ true
    pick true e h = refl
    pick false e (inl h) = absurd (Rattle.std.proofs.lemmas.Bool.false≢true (sym e ∙ h))
    pick false e (inr due) = lt-ltb (quiet_for d past) most (omega (arith, some, due, bound))
