-- From the first local zero on the counter is brought onto the target, and holds it.
use Rattle.std.proofs.Common.{◌≡◌, inl, inr, ℕ, ◌+◌, ◌-◌, ◌*◌, ◌≤◌, ◌<◌, Bool, true, false, nat_le}
use Rattle.std.proofs.Common.{◌==◌, ◌&&◌, ◌||◌, if◌then◌else◌, List, ◌∷◌, refl, sym, ◌∙◌, ap, subst, arith}
use Rattle.std.proofs.lemmas.Bool.{false≢true, leb-true, cases_lt}
use Rattle.sig_types.specs.declared.frame.Mode.TheVariants.{Coord}
use Rattle.sig_tables.specs.declared.tables.Tables.{Tables}
use Rattle.sig_tables.specs.Counting.{Correction, HasRoom, next_counter, begins_cycle, last_counter, tick_later, counted, target_after, needed}
use Rattle.sig_tables.specs.Counters.{correction_of, counters_since}
use Rattle.sig_tables.specs.Slots.{cycle_time}
use Rattle.sig_tables.specs.Past.{Moment}
use Rattle.sig_tables.specs.Looking.{last_frame}
use Rattle.coordination_laws.proofs.Looks.{same, exceeds, fits}
use Rattle.coordination_laws.proofs.Onto.{gone-is}
use Rattle.coordination_laws.proofs.Sooner.{not-sooner, not-sooner-adding}
use Rattle.coordination_laws.specs.Drifting.{Drift as Step, Even, moved, drifted, target_drifted}
use Rattle.coordination_laws.proofs.Reaching.{shifted, shifted-at, drifted-more, target-more}
use Rattle.plan_facts.specs.Disturbances.{Drift, drifts, is_disturbed, quiet_for}
use Rattle.plan_facts.specs.Bounds.{longest_cycle, shortest_cycle}
use Rattle.plan_facts.specs.Meets.{is_zero, first_zero, has_zero, zero_target, is_met, is_near, holds_since, offset_within, can_follow}
use Rattle.coordination_laws.specs.Cycles.{counters, CountsOn, PicksUp, step_at, steps_after, HasTime, are_near, ComesNear, last_number, cycles_needed, OnPath}
use Rattle.coordination_laws.proofs.Zeros.{quiet-more, first-older, first-now, has-older, has-now, zero-changes}
use Rattle.coordination_laws.proofs.Cycles.{counters-on, counters-at, counters-pickup}
use Rattle.coordination_laws.proofs.Drifting.{comes-near, keeps-time, drifted-even, target-even}

-- a cycle begins at a pickup, and at a coordinated local zero
pub pickup-begins : (n : ℕ) (m l : Moment) (past : List Moment) → PicksUp n m l → begins_cycle (counters n (m ∷ l ∷ past)) ≡ true
pickup-begins n m l past up = ap begins_cycle (counters-pickup n m l past up)

pub zero-begins : (t : Tables) (n : ℕ) (m l : Moment) (past : List Moment) → CountsOn t n m l past → is_zero (m ∷ l ∷ past) ≡ true
    → begins_cycle (counters n (m ∷ l ∷ past)) ≡ true
zero-begins t n m l past on zero =
    ap begins_cycle (counters-on t n m l past on
    ∙ ap (λ (cs : List ℕ). next_counter (correction_of t n) (counters n (l ∷ past)) m.frame.target ∷ cs) (counters-at n l past on.before)
    ∙ ap (λ (c : ℕ). c ∷ l.frame.counter ∷ counters_since n l.frame.version past) (sym on.counter))
    ∙ sym (zero-changes n m l past on.mode on.before) ∙ zero

-- before the bound nothing is asked
pub offset-early : (d : Drift) (most : ℕ) (past : List Moment) → quiet_for d past < most → offset_within d most past ≡ true
offset-early d most past early = ap (λ (b : Bool). if b then holds_since d most past else true) (exceeds most (quiet_for d past) early)

-- what is held: from a moment on at which counter and target are equal, in time, they are near
held-first : (d : Drift) (bound : ℕ) (m : Moment) (past : List Moment) → has_zero d (m ∷ past) ≡ true → is_met m ≡ true
    → quiet_for d (m ∷ past) ≤ bound → holds_since d bound (m ∷ past) ≡ true
held-first d bound m past zero met soon =
    pick (is_met m)
    (drifts d && (tick_later (cycle_time m.tables m.command) m.frame.counter == m.frame.target || tick_later
    (cycle_time m.tables m.command) m.frame.target == m.frame.counter))
    (has_zero d (m ∷ past)) (nat_le (quiet_for d (m ∷ past)) bound) (holds_since d bound past) met zero (fits _ _ soon)
  where
    pick : (a b z q x : Bool) → a ≡ true → z ≡ true → q ≡ true → (if (a || b) && z then (if a && q then true else x) else false) ≡ true
    pick true b true true x e f g = refl
    pick true b true false x e f g = absurd (false≢true g)
    pick true b false q x e f g = absurd (false≢true f)
    pick false b z q x e f g = absurd (false≢true e)

held-on : (d : Drift) (bound : ℕ) (m : Moment) (past : List Moment) → has_zero d (m ∷ past) ≡ true → is_near d m ≡ true
    → holds_since d bound past ≡ true → holds_since d bound (m ∷ past) ≡ true
held-on d bound m past zero near before =
    pick (is_near d m) (has_zero d (m ∷ past)) (is_met m && nat_le (quiet_for d (m ∷ past)) bound) (holds_since d bound past) near zero before
  where
    pick : (n z i x : Bool) → n ≡ true → z ≡ true → x ≡ true → (if n && z then (if i then true else x) else false) ≡ true
    pick true true true x e f g = refl
    pick true true false x e f g = g
    pick true false i x e f g = absurd (false≢true f)
    pick false z i x e f g = absurd (false≢true e)

is-met : (m : Moment) → m.frame.counter ≡ m.frame.target → is_met m ≡ true
is-met m e = ap (λ (x : ℕ). m.frame.counter == x) (sym e) ∙ same m.frame.counter

-- the first local zero begins the path
pub path-begins : (d : Drift) (t : Tables) (n most : ℕ) (m l : Moment) (past : List Moment) → m.frame.mode ≡ Coord n
    → is_disturbed d (m ∷ l ∷ past) ≡ false → has_zero d (l ∷ past) ≡ false → is_zero (m ∷ l ∷ past) ≡ true
    → quiet_for d (l ∷ past) < most → begins_cycle (counters n (m ∷ l ∷ past)) ≡ true → m.frame.target < cycle_time t n
    → HasRoom (correction_of t n) → (drifts d ≡ true → HasTime d (correction_of t n)) → OnPath d t n most (m ∷ l ∷ past)
path-begins d t n most m l past mode quiet none zero soon begins below room time = record {
  mode = mode;
  zero = has-now d m (l ∷ past) quiet zero;
  start = m ∷ l ∷ past;
  first = first-now d m (l ∷ past) quiet none zero;
  ticks = 0;
  quiet = nothing _;
  soon = less _ _ _ (quiet-more d m (l ∷ past) quiet) soon;
  begins = begins;
  below = below;
  number = nothing m.number;
  counted = refl;
  target = refl;
  comes = comes;
  held = λ follows at.
      held-first d _ m (l ∷ past) (has-now d m (l ∷ past) quiet zero)
      (is-met m (ap last_counter (sym (counters-at n m (l ∷ past) mode)) ∙ at-once (comes follows) at))
      (upper _ _ _ _ (quiet-more d m (l ∷ past) quiet) soon);
}
  where
    nothing : (a : ℕ) → a ≡ a + 0
    nothing a = omega arith

    less : (q r most : ℕ) → q ≡ r + 1 → r < most → q ≤ most
    less q r most h i = omega arith

    upper : (q r most more : ℕ) → q ≡ r + 1 → r < most → q ≤ most + more
    upper q r most more h i = omega arith

    comes : can_follow d t ≡ true
        → ComesNear d (correction_of t n) m.number (counters n (m ∷ l ∷ past)) m.frame.target (cycles_needed d t n m.frame.target)
    comes follows = comes-near d (correction_of t n) m.number (counters n (m ∷ l ∷ past)) m.frame.target room begins below time follows

    at-once : (x : ComesNear d (correction_of t n) m.number (counters n (m ∷ l ∷ past)) m.frame.target (cycles_needed d t n m.frame.target))
        → x.moment ≤ 0 → last_counter (counters n (m ∷ l ∷ past)) ≡ m.frame.target
    at-once x at =
        let none : x.moment ≡ 0 = omega arith in
        subst
        (λ (i : ℕ). last_counter (drifted (correction_of t n) i (steps_after d m.number) m.frame.target (counters n (m ∷ l ∷ past)))
        ≡ target_drifted (cycle_time t n) i (steps_after d m.number) m.frame.target)
        none x.equal

-- a quiet tick continues with it
pub path-step : (d : Drift) (t : Tables) (n most : ℕ) (m l : Moment) (past : List Moment) → is_disturbed d (m ∷ l ∷ past) ≡ false
    → CountsOn t n m l past → m.number ≡ l.number + 1 → m.frame.target ≡ moved (cycle_time t n) (step_at d m.number) l.frame.target
    → cycle_time m.tables m.command ≡ cycle_time t n → OnPath d t n most (l ∷ past) → OnPath d t n most (m ∷ l ∷ past)
path-step d t n most m l past quiet on next later cycle before = record {
  mode = on.mode;
  zero = zero;
  start = start;
  first = first-older d m (l ∷ past) quiet before.zero ∙ before.first;
  ticks = j + 1;
  quiet = sums _ _ _ _ (quiet-more d m (l ∷ past) quiet) before.quiet;
  soon = before.soon;
  begins = before.begins;
  below = before.below;
  number = sums _ _ _ _ next before.number;
  counted = counts;
  target = goes;
  comes = before.comes;
  held = λ follows at. held (before.comes follows) (before.held follows) at;
}
  where
    k : Correction
    k = correction_of t n

    start : List Moment
    start = before.start

    j : ℕ
    j = before.ticks

    steps : ℕ → Step
    steps = steps_after d (last_number start)

    from : ℕ
    from = (last_frame start).target

    zero : has_zero d (m ∷ l ∷ past) ≡ true
    zero = has-older d m (l ∷ past) quiet before.zero

    sums : (a b x j : ℕ) → a ≡ b + 1 → b ≡ x + j → a ≡ x + (j + 1)
    sums a b x j h i = omega arith

    -- the clock steps at this tick as it does N ticks after the first local zero
    here : step_at d m.number ≡ shifted j steps 0
    here = ap (step_at d) (numbers _ _ _ _ next before.number) ∙ sym (shifted-at j steps 0)
      where
        numbers : (a b x j : ℕ) → a ≡ b + 1 → b ≡ x + j → a ≡ x + 1 + (j + 0)
        numbers a b x j h i = omega arith

    goes : m.frame.target ≡ target_drifted (cycle_time t n) (j + 1) steps from
    goes = later ∙ ap (λ (x : Step). moved (cycle_time t n) x l.frame.target) here ∙ ap (moved (cycle_time t n) (shifted j steps 0)) before.target
        ∙ sym (target-more j (cycle_time t n) 1 steps from)

    counts : counters n (m ∷ l ∷ past) ≡ drifted k (j + 1) steps from (counters n start)
    counts = counters-on t n m l past on
        ∙ ap (λ (cs : List ℕ). next_counter k cs m.frame.target ∷ cs) before.counted
        ∙ ap (λ (x : ℕ). next_counter k (drifted k j steps from (counters n start)) x ∷ drifted k j steps from (counters n start))
        (goes ∙ target-more j (cycle_time t n) 1 steps from)
        ∙ sym (drifted-more j k 1 steps from (counters n start))

    counter : m.frame.counter ≡ last_counter (drifted k (j + 1) steps from (counters n start))
    counter = ap last_counter (sym (counters-at n m (l ∷ past) on.mode) ∙ counts)

    near : (x : ComesNear d k (last_number start) (counters n start) from (cycles_needed d t n from)) → x.moment ≤ j + 1 → is_near d m ≡ true
    near x at =
        subst (λ (c : ℕ). are_near d c m.frame.counter m.frame.target ≡ true) (sym cycle)
        (subst (λ (c : ℕ). are_near d (cycle_time t n) c m.frame.target ≡ true) (sym counter)
        (subst (λ (c : ℕ). are_near d (cycle_time t n) (last_counter (drifted k (j + 1) steps from (counters n start))) c ≡ true) (sym goes)
        (x.near (j + 1) at)))

    held : (x : ComesNear d k (last_number start) (counters n start) from (cycles_needed d t n from))
        → (x.moment ≤ j → holds_since d (most + cycles_needed d t n from) (l ∷ past) ≡ true)
        → x.moment ≤ j + 1 → holds_since d (most + cycles_needed d t n from) (m ∷ l ∷ past) ≡ true
    held x older at = elim (cases_lt j x.moment) [
      | inr le ↦ held-on d _ m (l ∷ past) zero (near x at) (older le)
      | inl less ↦
          let now : x.moment ≡ j + 1 = omega arith in
          held-first d _ m (l ∷ past) zero
          (is-met m (counter
          ∙ subst (λ (i : ℕ). last_counter (drifted k i steps from (counters n start)) ≡ target_drifted (cycle_time t n) i steps from) now x.equal
          ∙ sym goes))
          (bound _ _ _ _ _ _ _ (quiet-more d m (l ∷ past) quiet) before.quiet before.soon now x.within)
    ]
      where
        bound : (q r z j most i need : ℕ) → q ≡ r + 1 → r ≡ z + j → z ≤ most → i ≡ j + 1 → i ≤ need → q ≤ most + need
        bound q r z j most i need a b c e f = omega arith

-- so on that path, where the correction can follow the clock, the offset is met within the needed cycles, and held
pub path-holds : (d : Drift) (t : Tables) (n most : ℕ) (past : List Moment) → OnPath d t n most past → can_follow d t ≡ true
    → offset_within d (most + cycles_needed d t n (zero_target d past)) past ≡ true
path-holds d t n most past path follows =
    subst (λ (z : List Moment). offset_within d (most + cycles_needed d t n (last_frame z).target) past ≡ true) (sym path.first)
    (pick (nat_le (most + cycles_needed d t n (last_frame path.start).target) (quiet_for d past)) refl)
  where
    over : (i need most q z j : ℕ) → i ≤ need → most + need ≤ q → q ≡ z + j → z ≤ most → i ≤ j
    over i need most q z j a b c e = omega arith

    pick : (b : Bool) → nat_le (most + cycles_needed d t n (last_frame path.start).target) (quiet_for d past) ≡ b
        → (if b then holds_since d (most + cycles_needed d t n (last_frame path.start).target) past else true) ≡ true
    pick true late = path.held follows (over _ _ _ _ _ _ (path.comes follows).within (leb-true _ _ late) path.quiet path.soon)
    pick false late = refl

-- it is not met before the last of these cycles, each of the others at its shortest, where the clock keeps time
pub path-no-sooner : (d : Drift) (t : Tables) (n most : ℕ) (m : Moment) (past : List Moment) → drifts d ≡ false → HasRoom (correction_of t n)
    → OnPath d t n most (m ∷ past) → 1 ≤ zero_target d (m ∷ past) → m.frame.counter ≡ m.frame.target
    → quiet_for d (first_zero d (m ∷ past)) + (needed (correction_of t n) (zero_target d (m ∷ past)) - 1) * shortest_cycle t n
    < quiet_for d (m ∷ past)
path-no-sooner d t n most m past none room path some met =
    subst (λ (z : List Moment). quiet_for d z + (needed k (last_frame z).target - 1) * shortest_cycle t n < quiet_for d (m ∷ past)) (sym path.first)
    (sums _ _ _ _ path.quiet
    (by (t.unit.mode == 3) refl (subst (λ (z : List Moment). 1 ≤ (last_frame z).target) path.first some)))
  where
    k : Correction
    k = correction_of t n

    start : List Moment
    start = path.start

    j : ℕ
    j = path.ticks

    steps : ℕ → Step
    steps = steps_after d (last_number start)

    from : ℕ
    from = (last_frame start).target

    even : (i : ℕ) → steps i ≡ Even
    even i = keeps-time d (last_number start + 1 + i) none

    equal : last_counter (counted k j from (counters n start)) ≡ target_after k j from
    equal =
        ap last_counter (sym (drifted-even j k steps from (counters n start) even) ∙ sym path.counted ∙ counters-at n m past path.mode)
        ∙ met ∙ path.target ∙ target-even j (cycle_time t n) steps from even ∙ gone-is j (cycle_time t n) from path.below

    by : (b : Bool) → (t.unit.mode == 3) ≡ b → 1 ≤ from
        → (needed k from - 1) * (if b then cycle_time t n - t.unit.subtract else longest_cycle t n) < j
    by true e some = not-sooner k (counters n start) from j room path.begins path.below some equal
    by false e some = not-sooner-adding k (counters n start) from j room path.begins path.below some
        (λ three. false≢true (sym e ∙ ap (λ (x : ℕ). x == 3) three)) equal

    sums : (q z j need : ℕ) → q ≡ z + j → need < j → z + need < q
    sums q z j need h i = omega arith
