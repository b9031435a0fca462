-- One cycle under a clock that drifts at one tick of it, or at none.
use Rattle.std.proofs.Common.{◌≡◌, ◌≢◌, ◌⊎◌, inl, inr, ℕ, zero, suc, true, ◌+◌, ◌-◌, ◌%◌, ◌<◌, ◌≤◌, min, List, ◌∷◌, refl, sym, ◌∙◌, ap, subst, arith}
use Rattle.std.proofs.lemmas.Bool.{cases_order, cases_Bool, both_ways}
use Rattle.sig_tables.specs.Counting.{Correction, HasRoom, tick_later, steps_for, adds_sooner, stands, skips, last_step_changed, begins_cycle, next_counter, last_counter, needed}
use Rattle.coordination_laws.specs.Stepping.{KeepsLimits, to_zero, StepsOn}
use Rattle.coordination_laws.proofs.Steps.{no-steps, one-step, step-more}
use Rattle.coordination_laws.proofs.Errors.{At, plain-keeps, next-is, no-error, stand-adds, stand-ends}
use Rattle.coordination_laws.proofs.Needed.{left-some}
use Rattle.coordination_laws.proofs.AnyTarget.{steps-on}
use Rattle.coordination_laws.specs.Drifting.{Drift, Even, Gains, Loses, moved, next_drifts, drifted, target_drifted, Spaced, CanCorrect}
use Rattle.coordination_laws.proofs.Jumps.{loses-one}
use Rattle.coordination_laws.proofs.Going.{Goes, Dwells, AddsNext, SkipsNext, goes-loses, goes-gains}
use Rattle.coordination_laws.proofs.Ticks.{After, Met, On, Over, tick}

-- ---- from a local zero that is not on target
takes-one : (y most : ℕ) → 1 ≤ most → 1 ≤ y → steps_for (y - most) most + 1 ≤ steps_for y most
takes-one y most h some = elim (cases_order y most) [
  | inl e ↦ low (omega arith)
  | inr (inl l) ↦ low (omega arith)
  | inr (inr g) ↦
      let s : y ≡ (y - most) + most = omega arith in
      let m : steps_for y most ≡ steps_for (y - most) most + 1 = ap (λ (x : ℕ). steps_for x most) s ∙ step-more (y - most) most h (omega arith) in
      omega arith
]
  where
    low : y ≤ most → steps_for (y - most) most + 1 ≤ steps_for y most
    low le =
        let z : steps_for (y - most) most ≡ 0 = ap (λ (x : ℕ). steps_for x most) (let q : y - most ≡ 0 = omega arith in q) ∙ no-steps most h in
        let o : steps_for y most ≡ 1 = one-step y most some le in omega arith

pub goes-from-zero : (k : Correction) (most t : ℕ) (before : List ℕ) → HasRoom k → (k.mode ≡ 2) ⊎ ((k.mode ≡ 3) ⊎ (k.mode ≡ 4)) → 1 ≤ t → t < k.cycle
    → stands (0 ∷ before) ≡ 0 → skips (0 ∷ before) ≡ 0 → last_step_changed (0 ∷ before) ≡ true → needed k t ≤ most → Goes k most 1 0 before t
goes-from-zero k most t before room (inl two) some below stood skipped changed n =
    let is : needed k t ≡ steps_for ((k.cycle - t) % k.cycle) k.dwell = rw two refl in
    let l : steps_for ((k.cycle - t) % k.cycle) k.dwell ≡ steps_for (k.cycle - t) k.dwell
    = ap (λ (x : ℕ). steps_for x k.dwell) (left-some k.cycle t some below) in
    let o : steps_for (k.cycle - t - k.dwell) k.dwell + 1 ≤ steps_for (k.cycle - t) k.dwell = takes-one (k.cycle - t) k.dwell room.dwell (omega arith) in
    Dwells two k.dwell refl (omega arith) (omega arith)
goes-from-zero k most t before room (inr (inl three)) some below stood skipped changed n =
    let is : needed k t ≡ min (steps_for ((k.cycle - t) % k.cycle) k.add) (steps_for t k.subtract) = rw three refl in
    let l : steps_for ((k.cycle - t) % k.cycle) k.add ≡ steps_for (k.cycle - t) k.add = ap (λ (x : ℕ). steps_for x k.add) (left-some k.cycle t some below) in
    elim (cases_Bool (adds_sooner k t)) [
      | inl h ↦
          let le : steps_for (k.cycle - t) k.add ≤ steps_for t k.subtract = Rattle.std.proofs.lemmas.Bool.leb-true _ _ h in
          let o : steps_for (k.cycle - t - k.add) k.add + 1 ≤ steps_for (k.cycle - t) k.add = takes-one (k.cycle - t) k.add room.add (omega arith) in
          AddsNext (inr (three, h)) k.add (omega arith) stood changed (omega arith)
      | inr h ↦
          let le : steps_for t k.subtract < steps_for (k.cycle - t) k.add = Rattle.std.proofs.lemmas.Bool.leb-false _ _ h in
          let o : steps_for (t - k.subtract) k.subtract + 1 ≤ steps_for t k.subtract = takes-one t k.subtract room.subtract some in
          SkipsNext (three, h) k.subtract (omega arith) (omega arith) stood changed (omega arith)
    ]
goes-from-zero k most t before room (inr (inr four)) some below stood skipped changed n =
    let is : needed k t ≡ steps_for ((k.cycle - t) % k.cycle) k.add = rw four refl in
    let l : steps_for ((k.cycle - t) % k.cycle) k.add ≡ steps_for (k.cycle - t) k.add = ap (λ (x : ℕ). steps_for x k.add) (left-some k.cycle t some below) in
    let o : steps_for (k.cycle - t - k.add) k.add + 1 ≤ steps_for (k.cycle - t) k.add = takes-one (k.cycle - t) k.add room.add (omega arith) in
    AddsNext (inl four) k.add (omega arith) stood changed (omega arith)

-- ---- a tick with drift
level-meets : (k : Correction) (most s c : ℕ) (before : List ℕ) → At k.cycle s c 0
    → After k most 0 (tick_later k.cycle s) (next_counter k (c ∷ before) (tick_later k.cycle s)) (c ∷ before)
level-meets k most s c before a =
    subst (λ (x : ℕ). After k most 0 (tick_later k.cycle s) x (c ∷ before)) (sym (next-is k s c 0 before a
    ∙ no-error k (c ∷ before) c)) (Met (plain-keeps k.cycle s c 0 a))

loses-tick : (k : Correction) (most t c : ℕ) (before : List ℕ) (e : ℕ) → HasRoom k → At k.cycle t c e → 1 ≤ e → Goes k most 1 c before e
    → After k most 0 t (next_counter k (c ∷ before) t) (c ∷ before)
loses-tick k most t c before zero room a some goes = absurd (omega arith)
loses-tick k most t c before (suc e) room a some goes =
    let q : suc e ≡ e + 1 = omega arith in
    let j = loses-one k.cycle t c e (subst (λ (x : ℕ). At k.cycle t c x) q a) in
    subst (λ (x : ℕ). After k most 0 x (next_counter k (c ∷ before) x) (c ∷ before)) j.2 (by e j.0 j.1 (subst (λ
    (x : ℕ). Goes k most 1 c before x) q goes) (subst (λ (x : ℕ). x < k.cycle) q a.error))
  where
    by : (f s : ℕ) → At k.cycle s c f → Goes k most 1 c before (f + 1) → f + 1 < k.cycle
        → After k most 0 (tick_later k.cycle s) (next_counter k (c ∷ before) (tick_later k.cycle s)) (c ∷ before)
    by zero s b g below = level-meets k most s c before b
    by (suc f) s b g below = tick k most 0 s c before (suc f) room b (omega arith) (goes-loses k most c before (suc f) room below g)

gains-tick : (k : Correction) (most t c : ℕ) (before : List ℕ) (e : ℕ) → HasRoom k → k.mode ≡ 3 → At k.cycle t c e → 1 ≤ e → Goes k most 1 c before e
    → After k most 0 (tick_later k.cycle (tick_later k.cycle t)) (next_counter k (c ∷ before) (tick_later k.cycle (tick_later k.cycle t))) (c ∷ before)
gains-tick k most t c before e room three a some goes = elim (cases_order (e + 1) k.cycle) [
  | inl full ↦ level-meets k most (tick_later k.cycle t) c before (stand-ends k.cycle t c e a full)
  | inr (inl less) ↦ tick k most 0 (tick_later k.cycle t) c before (e + 1) room (stand-adds k.cycle t c e a less) (omega arith)
      (goes-gains k most c before e room three less goes)
  | inr (inr more) ↦ absurd (let below : e < k.cycle = a.error in omega arith)
]

-- ---- the cycle counter and target meet within that many ticks
pub record Meeting (k : Correction) (m : ℕ) (drifts : ℕ → Drift) (t : ℕ) (past : List ℕ) : Type 0 where
  pub ticks : ℕ
  pub within : ticks ≤ m
  pub counter : ℕ
  pub before : List ℕ
  pub is : drifted k ticks drifts t past ≡ counter ∷ before
  pub level : At k.cycle (target_drifted k.cycle ticks drifts t) counter 0

-- the next cycle begins, with no more to go than this
pub record Turning (k : Correction) (most spare m : ℕ) (drifts : ℕ → Drift) (t : ℕ) (past : List ℕ) : Type 0 where
  pub ticks : ℕ
  pub within : ticks ≤ m
  pub before : List ℕ
  pub is : drifted k ticks drifts t past ≡ 0 ∷ before
  pub begins : begins_cycle (0 ∷ before) ≡ true
  pub error : ℕ
  pub here : At k.cycle (target_drifted k.cycle ticks drifts t) 0 error
  pub some : 1 ≤ error
  pub few : needed k error + spare ≤ most

-- one tick in front
meeting-more : (k : Correction) (m : ℕ) (drifts : ℕ → Drift) (t : ℕ) (past : List ℕ)
    → Meeting k m (next_drifts drifts) (moved k.cycle (drifts 0) t) (next_counter k past (moved k.cycle (drifts 0) t) ∷ past)
    → Meeting k (suc m) drifts t past
meeting-more k m drifts t past x = record {
  ticks = suc x.ticks;
  within = omega (arith, x.within);
  counter = x.counter;
  before = x.before;
  is
      = x.is;
  level = x.level;
}

turning-more : (k : Correction) (most spare m : ℕ) (drifts : ℕ → Drift) (t : ℕ) (past : List ℕ)
    → Turning k most spare m (next_drifts drifts) (moved k.cycle (drifts 0) t) (next_counter k past (moved k.cycle (drifts 0) t) ∷ past)
    → Turning k most spare (suc m) drifts t past
turning-more k most spare m drifts t past x = record {
  ticks = suc x.ticks;
  within = omega (arith, x.within);
  before = x.before;
  is = x.is;
  begins = x.begins;
  error = x.error;
  here = x.here;
  some = x.some;
  few = x.few;
}

meets-now : (k : Correction) (m : ℕ) (drifts : ℕ → Drift) (t : ℕ) (past : List ℕ)
    → At k.cycle (moved k.cycle (drifts 0) t) (next_counter k past (moved k.cycle (drifts 0) t)) 0 → Meeting k (suc m) drifts t past
meets-now k m drifts t past a =
    meeting-more k m drifts t past (record {
      ticks = 0;
      within = omega arith;
      counter = next_counter k past (moved k.cycle (drifts 0) t);
      before
          = past;
      is = refl;
      level = a;
    })

turns-now : (k : Correction) (most spare m : ℕ) (drifts : ℕ → Drift) (t : ℕ) (past : List ℕ) (f : ℕ)
    → begins_cycle (next_counter k past (moved k.cycle (drifts 0) t) ∷ past) ≡ true
    → At k.cycle (moved k.cycle (drifts 0) t) (next_counter k past (moved k.cycle (drifts 0) t)) f
    → 1 ≤ f → needed k f + spare ≤ most → Turning k most spare (suc m) drifts t past
turns-now k most spare m drifts t past f begins a some few =
    let x : Rattle.coordination_laws.proofs.Looks.Begun (next_counter k past (moved k.cycle (drifts 0) t) ∷ past) = Rattle.coordination_laws.proofs.Looks.begun _ begins in
    let z : next_counter k past (moved k.cycle (drifts 0) t) ≡ 0 = ap last_counter x.is in
    turning-more k most spare m drifts t past (record {
      ticks = 0;
      within = omega arith;
      before = past;
      is = ap (λ (y : ℕ). y ∷ past) z;
      begins = subst (λ (y : ℕ). begins_cycle (y ∷ past) ≡ true) z begins;
      error = f;
      here = subst (λ (y : ℕ). At k.cycle (moved k.cycle (drifts 0) t) y f) z a;
      some = some;
      few = few;
    })

-- with no drift in that many ticks
pub quiet-run : (m : ℕ) (k : Correction) (most spare : ℕ) (drifts : ℕ → Drift) (t c : ℕ) (before : List ℕ) (e : ℕ) → HasRoom k → KeepsLimits k (c ∷ before)
    → to_zero k (c ∷ before) ≤ m → ((i : ℕ) → i < m → drifts i ≡ Even) → At k.cycle t c e → 1 ≤ e → Goes k most spare c before e
    → Meeting k m drifts t (c ∷ before) ⊎ Turning k most spare m drifts t (c ∷ before)
quiet-run zero k most spare drifts t c before e room keeps le quiet a some goes = absurd (let below : c < k.cycle = keeps.counter in omega arith)
quiet-run (suc m) k most spare drifts t c before e room keeps le quiet a some goes =
    go (subst (λ (x : Drift). After k most spare (moved k.cycle x t) (next_counter k (c ∷ before) (moved k.cycle x t)) (c ∷ before)) (sym (quiet 0
    (omega arith)))
    (tick k most spare t c before e room a some goes))
    (steps-on k c before (moved k.cycle (drifts 0) t) room keeps)
    (λ f here some' goes' s.
    quiet-run m k most spare (next_drifts drifts) (moved k.cycle (drifts 0) t) (next_counter k (c ∷ before) (moved k.cycle (drifts 0) t))
    (c ∷ before) f room s.0 s.1
    (λ i l. quiet (suc i) (omega arith)) here some' goes')
  where
    go : After k most spare (moved k.cycle (drifts 0) t) (next_counter k (c ∷ before) (moved k.cycle (drifts 0) t)) (c ∷ before)
        → StepsOn k (c ∷ before) (moved k.cycle (drifts 0) t)
        → ((f : ℕ) → At k.cycle (moved k.cycle (drifts 0) t) (next_counter k (c ∷ before) (moved k.cycle (drifts 0) t)) f → 1 ≤ f
        → Goes k most spare (next_counter k (c ∷ before) (moved k.cycle (drifts 0) t)) (c ∷ before) f
        → KeepsLimits k (next_counter k (c ∷ before) (moved k.cycle (drifts 0) t) ∷ c ∷ before) × (to_zero k (next_counter k (c ∷ before)
        (moved k.cycle (drifts 0) t) ∷ c ∷ before) ≤ m)
        → Meeting k m (next_drifts drifts) (moved k.cycle (drifts 0) t) (next_counter k (c ∷ before) (moved k.cycle (drifts 0) t) ∷ c ∷ before)
        ⊎ Turning k most spare m (next_drifts drifts) (moved k.cycle (drifts 0) t) (next_counter k (c ∷ before) (moved k.cycle (drifts 0) t) ∷ c ∷ before))
        → Meeting k (suc m) drifts t (c ∷ before) ⊎ Turning k most spare (suc m) drifts t (c ∷ before)
    go (Met level) s more = inl (meets-now k m drifts t (c ∷ before) level)
    go (Over f begins here some' few) s more = inr (turns-now k most spare m drifts t (c ∷ before) f begins here some' few)
    go (On f here some' goes' inside) s more = elim s.nearer [
      | inl b ↦ absurd (both_ways _ inside b)
      | inr l ↦ elim (more f here some' goes' (
        s.keeps,
        (let r : to_zero k (next_counter k (c ∷ before) (moved k.cycle
            (drifts 0) t) ∷ c ∷ before) ≤ m = omega arith in r),
      )) [
        | inl x ↦ inl (meeting-more k m drifts t (c ∷ before) x)
        | inr x ↦ inr (turning-more k most spare m drifts t (c ∷ before) x)
      ]
    ]

-- what a cycle comes to with at most one step of drift in it: that step uses up what was to spare
pub data Cycled (k : Correction) (most m : ℕ) (drifts : ℕ → Drift) (t : ℕ) (past : List ℕ) : Type 0 where
  Meets : (meeting : Meeting k m drifts t past) → Cycled k most m drifts t past
  Nearer : (turning : Turning k most 1 m drifts t past) → Cycled k most m drifts t past
  Drifted : (turning : Turning k most 0 m drifts t past) → (j : ℕ) → (in_cycle : j < turning.ticks) → (step : drifts j ≢ Even) → Cycled k most m drifts t past

cycled-more : (k : Correction) (most m : ℕ) (drifts : ℕ → Drift) (t : ℕ) (past : List ℕ)
    → Cycled k most m (next_drifts drifts) (moved k.cycle (drifts 0) t) (next_counter k past (moved k.cycle (drifts 0) t) ∷ past)
    → Cycled k most (suc m) drifts t past
unfolding turning-more
cycled-more k most m drifts t past (Meets x) = Meets (meeting-more k m drifts t past x)
cycled-more k most m drifts t past (Nearer x) = Nearer (turning-more k most 1 m drifts t past x)
cycled-more k most m drifts t past (Drifted x j low step) = Drifted (turning-more k most 0 m drifts t past x) (suc j) (let l : suc j < suc x.ticks
    = omega arith in l) step

pub even-or : (x : Drift) → (x ≡ Even) ⊎ (x ≢ Even)
even-or Even = inl refl
even-or Gains = inr (λ e. cc)
even-or Loses = inr (λ e. cc)

-- a step of drift at this tick
drift-tick : (k : Correction) (most t c : ℕ) (before : List ℕ) (e : ℕ) (x : Drift) → HasRoom k → (k.mode ≡ 3) ⊎ (x ≢ Gains) → At k.cycle t c e
    → 1 ≤ e → Goes k most 1 c before e
    → x ≢ Even → After k most 0 (moved k.cycle x t) (next_counter k (c ∷ before) (moved k.cycle x t)) (c ∷ before)
drift-tick k most t c before e Even room can a some goes ne = absurd (ne refl)
drift-tick k most t c before e Gains room (inl three) a some goes ne = gains-tick k most t c before e room three a some goes
drift-tick k most t c before e Gains room (inr never) a some goes ne = absurd (never refl)
drift-tick k most t c before e Loses room can a some goes ne = loses-tick k most t c before e room a some goes

-- what comes after a step of drift is quiet for as long as the steps are apart
pub quiet-after : (gap m : ℕ) (drifts : ℕ → Drift) → Spaced gap drifts → suc m ≤ gap → drifts 0 ≢ Even → (i : ℕ) → i < m → next_drifts drifts i ≡ Even
quiet-after gap m drifts spaced short step i low = elim (even-or (next_drifts drifts i)) [
  | inl e ↦ e
  | inr ne ↦ absurd (let far : 0 + gap ≤ suc i = spaced 0 (suc i) (omega arith) step ne in omega arith)
]

pub spaced-next : (gap : ℕ) (drifts : ℕ → Drift) → Spaced gap drifts → Spaced gap (next_drifts drifts)
spaced-next gap drifts spaced i j l a b = let far : suc i + gap ≤ suc j = spaced (suc i) (suc j) (omega arith) a b in omega arith

pub can-next : (k : Correction) (drifts : ℕ → Drift) → CanCorrect k drifts → CanCorrect k (next_drifts drifts)
can-next k drifts (inl three) = inl three
can-next k drifts (inr never) = inr (λ i. never (suc i))

pub can-now : (k : Correction) (drifts : ℕ → Drift) → CanCorrect k drifts → (k.mode ≡ 3) ⊎ (drifts 0 ≢ Gains)
can-now k drifts (inl three) = inl three
can-now k drifts (inr never) = inr (never 0)

-- a cycle in which the clock may drift once
pub drift-run : (m : ℕ) (k : Correction) (most gap : ℕ) (drifts : ℕ → Drift) (t c : ℕ) (before : List ℕ) (e : ℕ) → HasRoom k → KeepsLimits k (c ∷ before)
    → to_zero k (c ∷ before) ≤ m → m ≤ gap → Spaced gap drifts → CanCorrect k drifts → At k.cycle t c e → 1 ≤ e → Goes k most 1 c before e
    → Cycled k most m drifts t (c ∷ before)
unfolding turns-now turning-more
drift-run zero k most gap drifts t c before e room keeps le short spaced can a some goes = absurd (let below : c < k.cycle = keeps.counter in omega arith)
drift-run (suc m) k most gap drifts t c before e room keeps le short spaced can a some goes =
    let s : StepsOn k (c ∷ before) (moved k.cycle (drifts 0) t) = steps-on k c before (moved k.cycle (drifts 0) t) room keeps in
    elim (even-or (drifts 0)) [
      | inl even ↦ after-even
          (subst (λ (x : Drift). After k most 1 (moved k.cycle x t) (next_counter k (c ∷ before) (moved k.cycle x t)) (c ∷ before)) (sym even)
          (tick k most 1 t c before e room a some goes)) s
          (λ f here some' goes' l. drift-run m k most gap (next_drifts drifts) (moved k.cycle (drifts 0) t) (next_counter k (c ∷ before)
          (moved k.cycle (drifts 0) t)) (c ∷ before) f
          room s.keeps l (omega arith) (spaced-next gap drifts spaced) (can-next k drifts can) here some' goes')
      | inr step ↦ after-step (drift-tick k most t c before e (drifts 0) room (can-now k drifts can) a some goes step) s step
    ]
  where
    fits-in : to_zero k (next_counter k (c ∷ before) (moved k.cycle (drifts 0) t) ∷ c ∷ before) < to_zero k (c ∷ before)
        → to_zero k (next_counter k (c ∷ before) (moved k.cycle (drifts 0) t) ∷ c ∷ before) ≤ m
    fits-in l = omega arith

    after-even : After k most 1 (moved k.cycle (drifts 0) t) (next_counter k (c ∷ before) (moved k.cycle (drifts 0) t)) (c ∷ before)
        → StepsOn k (c ∷ before) (moved k.cycle (drifts 0) t)
        → ((f : ℕ) → At k.cycle (moved k.cycle (drifts 0) t) (next_counter k (c ∷ before) (moved k.cycle (drifts 0) t)) f → 1 ≤ f
        → Goes k most 1 (next_counter k (c ∷ before) (moved k.cycle (drifts 0) t)) (c ∷ before) f
        → to_zero k (next_counter k (c ∷ before) (moved k.cycle (drifts 0) t) ∷ c ∷ before) ≤ m
        → Cycled k most m (next_drifts drifts) (moved k.cycle (drifts 0) t) (next_counter k (c ∷ before) (moved k.cycle (drifts 0) t) ∷ c ∷ before))
        → Cycled k most (suc m) drifts t (c ∷ before)
    after-even (Met level) s more = Meets (meets-now k m drifts t (c ∷ before) level)
    after-even (Over f begins here some' few) s more = Nearer (turns-now k most 1 m drifts t (c ∷ before) f begins here some' few)
    after-even (On f here some' goes' inside) s more = elim s.nearer [
      | inl b ↦ absurd (both_ways _ inside b)
      | inr l ↦ cycled-more k most m drifts t (c ∷ before) (more f here some' goes' (fits-in l))
    ]

    drifted-now : (x : Turning k most 0 m (next_drifts drifts) (moved k.cycle (drifts 0) t) (next_counter k (c ∷ before) (moved k.cycle
        (drifts 0) t) ∷ c ∷ before))
        → drifts 0 ≢ Even → Cycled k most (suc m) drifts t (c ∷ before)
    drifted-now x step = Drifted (turning-more k most 0 m drifts t (c ∷ before) x) 0 (let l : 0 < suc x.ticks = omega arith in l) step

    turned-now : (f : ℕ) → begins_cycle (next_counter k (c ∷ before) (moved k.cycle (drifts 0) t) ∷ c ∷ before) ≡ true
        → At k.cycle (moved k.cycle (drifts 0) t) (next_counter k (c ∷ before) (moved k.cycle (drifts 0) t)) f → 1 ≤ f → needed k f + 0 ≤ most
        → drifts 0 ≢ Even
        → Cycled k most (suc m) drifts t (c ∷ before)
    turned-now f begins here some' few step = Drifted (turns-now k most 0 m drifts t (c ∷ before) f begins here some' few) 0 (let l : 0 < suc 0
        = omega arith in l) step

    after-step : After k most 0 (moved k.cycle (drifts 0) t) (next_counter k (c ∷ before) (moved k.cycle (drifts 0) t)) (c ∷ before)
        → StepsOn k (c ∷ before) (moved k.cycle (drifts 0) t) → drifts 0 ≢ Even → Cycled k most (suc m) drifts t (c ∷ before)
    after-step (Met level) s step = Meets (meets-now k m drifts t (c ∷ before) level)
    after-step (Over f begins here some' few) s step = turned-now f begins here some' few step
    after-step (On f here some' goes' inside) s step = elim s.nearer [
      | inl b ↦ absurd (both_ways _ inside b)
      | inr l ↦ elim (quiet-run m k most 0 (next_drifts drifts) (moved k.cycle (drifts 0) t) (next_counter k (c ∷ before) (moved k.cycle
          (drifts 0) t)) (c ∷ before) f room s.keeps
          (fits-in l) (quiet-after gap m drifts spaced short step) here some' goes') [
            | inl x ↦ Meets (meeting-more k m drifts t (c ∷ before) x)
            | inr x ↦ drifted-now x step
          ]
    ]
