-- Once on target the counter is never more than one tick off.
use Rattle.std.proofs.Common.{◌≡◌, ◌≢◌, ◌⊎◌, inl, inr, ℕ, zero, suc, Bool, true, false, not, nat_le, ◌==◌, ◌&&◌, if◌then◌else◌, ◌+◌, ◌-◌, ◌*◌, ◌<◌, ◌≤◌, List, ◌∷◌, refl, sym, ◌∙◌, ap, subst, arith}
use Rattle.std.proofs.Math.Nat.{mod-lt}
use Rattle.std.proofs.lemmas.Bool.{cases_order, cases_lt, leb-true}
use Rattle.sig_tables.specs.Counting.{Correction, HasRoom, tick_later, steps_for, dwelling, adding, skipping, stands, skips, last_step_changed, begins_cycle, next_counter, last_counter, counter_after, counted, needed, most_a_cycle}
use Rattle.coordination_laws.specs.Stepping.{KeepsLimits, to_zero, StepsOn}
use Rattle.coordination_laws.proofs.Steps.{one-step, step-more, fewer-steps, later-within, later-end}
use Rattle.coordination_laws.proofs.Looks.{fits, exceeds, Begun, begun}
use Rattle.coordination_laws.proofs.Errors.{At, zero-error, plain-keeps, stand-ends, skip-takes, next-is, no-error, in-window, past-window, stand-adds}
use Rattle.coordination_laws.proofs.Resting.{gone, Adds, Subtracts, corrected-dwells, corrected-adds, corrected-subtracts}
use Rattle.coordination_laws.proofs.Onto.{Onto, onto}
use Rattle.coordination_laws.proofs.AnyTarget.{steps-on}
use Rattle.coordination_laws.specs.Drifting.{Drift, Even, Gains, Loses, moved, next_drifts, drifted, target_drifted, Spaced, CanCorrect, IsNear, MeetsTarget, StaysNear}
use Rattle.coordination_laws.proofs.Jumps.{loses-level}
use Rattle.coordination_laws.proofs.Ticks.{needed-adds, needed-subtracts, needed-dwells}
use Rattle.coordination_laws.proofs.Reaching.{reaches, shifted, shifted-spaced, shifted-can, drifted-more, target-more, zero-keeps}
use Rattle.coordination_laws.proofs.OffsetCycles.{spaced-next, can-next, can-now, even-or, quiet-after}

-- no error, or one tick, which the correction is about to make up
pub data Off (k : Correction) (e : ℕ) : Type 0 where
  Level : (none : e ≡ 0) → Off k e
  Dwells : (mode : k.mode ≡ 2) → (one : e + 1 ≡ k.cycle) → Off k e
  Adding : (mode : Adds k e) → (one : e + 1 ≡ k.cycle) → Off k e
  Skipping : (mode : Subtracts k 1) → (one : e ≡ 1) → Off k e

-- a counter and what its error may be
pub record Stands_off (k : Correction) (t c : ℕ) : Type 0 where
  pub error : ℕ
  pub here : At k.cycle t c error
  pub off : Off k error

off-plain : (k : Correction) (t c : ℕ) (before : List ℕ) (e : ℕ) → At k.cycle t c e → Off k e → counter_after k (c ∷ before) c e ≡ tick_later k.cycle c
    → Stands_off k (tick_later k.cycle t) (next_counter k (c ∷ before) (tick_later k.cycle t))
off-plain k t c before e a o is =
    subst (λ (x : ℕ). Stands_off k (tick_later k.cycle t) x) (sym (next-is k t c e before a
    ∙ is)) (record { error = e; here = plain-keeps k.cycle t c e a; off = o })

off-stand : (k : Correction) (t c : ℕ) (before : List ℕ) (e : ℕ) → At k.cycle t c e → e + 1 ≡ k.cycle → counter_after k (c ∷ before) c e ≡ c
    → Stands_off k (tick_later k.cycle t) (next_counter k (c ∷ before) (tick_later k.cycle t))
off-stand k t c before e a full is =
    subst (λ (x : ℕ). Stands_off k (tick_later k.cycle t) x) (sym (next-is k t c e before a
    ∙ is)) (record { error = 0; here = stand-ends k.cycle t c e a full; off = Level refl })

-- a tick of an even clock keeps it so
pub off-tick : (k : Correction) (t c : ℕ) (before : List ℕ) (e : ℕ) → HasRoom k → At k.cycle t c e → Off k e
    → Stands_off k (tick_later k.cycle t) (next_counter k (c ∷ before) (tick_later k.cycle t))
off-tick k t c before e room a (Level z) =
    off-plain k t c before e a (Level z) (subst (λ (x : ℕ). counter_after k (c ∷ before) c x ≡ tick_later k.cycle c) (sym z) (no-error k (c ∷ before) c))
off-tick k t c before e room a (Dwells two one) = elim (cases_lt c k.window) [
  | inr past ↦ off-plain k t c before e a (Dwells two one) (past-window k (c ∷ before) c e past)
  | inl inside ↦ by (c == 0 && not (nat_le k.dwell (stands (c ∷ before)))) refl
      (in-window k (c ∷ before) c e inside (let l : 10 ≤ k.cycle = room.cycle in omega arith) ∙ corrected-dwells k (c ∷ before) c e two)
]
  where
    by : (b : Bool) → (c == 0 && not (nat_le k.dwell (stands (c ∷ before)))) ≡ b → counter_after k (c ∷ before) c e ≡ dwelling k (c ∷ before) c
        → Stands_off k (tick_later k.cycle t) (next_counter k (c ∷ before) (tick_later k.cycle t))
    by true h is = off-stand k t c before e a one (is ∙ ap (λ (b : Bool). if b then c else tick_later k.cycle c) h)
    by false h is = off-plain k t c before e a (Dwells two one) (is ∙ ap (λ (b : Bool). if b then c else tick_later k.cycle c) h)
off-tick k t c before e room a (Adding mode one) = elim (cases_lt c k.window) [
  | inr past ↦ off-plain k t c before e a (Adding mode one) (past-window k (c ∷ before) c e past)
  | inl inside ↦ by (last_step_changed (c ∷ before) && not (nat_le k.add (stands (c ∷ before)))) refl
      (in-window k (c ∷ before) c e inside (let l : 10 ≤ k.cycle = room.cycle in omega arith) ∙ corrected-adds k (c ∷ before) c e mode)
]
  where
    by : (b : Bool) → (last_step_changed (c ∷ before) && not (nat_le k.add (stands (c ∷ before)))) ≡ b
        → counter_after k (c ∷ before) c e ≡ adding k (c ∷ before) c
        → Stands_off k (tick_later k.cycle t) (next_counter k (c ∷ before) (tick_later k.cycle t))
    by true h is = off-stand k t c before e a one (is ∙ ap (λ (b : Bool). if b then c else tick_later k.cycle c) h)
    by false h is = off-plain k t c before e a (Adding mode one) (is ∙ ap (λ (b : Bool). if b then c else tick_later k.cycle c) h)
off-tick k t c before e room a (Skipping mode one) = elim (cases_lt c k.window) [
  | inr past ↦ off-plain k t c before e a (Skipping mode one) (past-window k (c ∷ before) c e past)
  | inl inside ↦ by (nat_le (c + 2) k.window) (not (nat_le k.subtract (skips (c ∷ before)))) refl refl
      (in-window k (c ∷ before) c e inside (omega arith) ∙ corrected-subtracts k (c ∷ before) c e (subst (λ (x : ℕ). Subtracts k x) (sym one) mode))
]
  where
    by : (b d : Bool) → nat_le (c + 2) k.window ≡ b → not (nat_le k.subtract (skips (c ∷ before))) ≡ d
        → counter_after k (c ∷ before) c e ≡ skipping k (c ∷ before) c
        → Stands_off k (tick_later k.cycle t) (next_counter k (c ∷ before) (tick_later k.cycle t))
    by true true h g is =
        let short : c + 2 < k.cycle = (let le : c + 2 ≤ k.window = leb-true _ _ h in omega (arith, room.window)) in
        let next : next_counter k (c ∷ before) (tick_later k.cycle t) ≡ c + 2 = next-is k t c e before a ∙ is ∙ rw (h, g) refl in
        subst (λ (x : ℕ). Stands_off k (tick_later k.cycle t) x) (sym next)
        (record {
          error = 0;
          here = skip-takes k.cycle t c 0 (subst (λ (x : ℕ). At k.cycle t c x) (let q : e ≡ 0 + 1
              = omega arith in q) a) short;
          off = Level refl;
        })
    by true false h g is = off-plain k t c before e a (Skipping mode one) (is ∙ rw (h, g) refl)
    by false d h g is = off-plain k t c before e a (Skipping mode one) (is ∙ rw h refl)

-- it needs one cycle at most
off-needed : (k : Correction) (e : ℕ) → HasRoom k → e < k.cycle → Off k e → (e ≡ 0) ⊎ ((1 ≤ e) × (needed k e ≤ 1))
off-needed k e room below (Level z) = inl z
off-needed k e room below (Dwells two one) =
    let some : 1 ≤ e = (let l : 10 ≤ k.cycle = room.cycle in omega arith) in
    let s : steps_for (k.cycle - e) k.dwell ≡ 1 = one-step (k.cycle - e) k.dwell (omega arith) (let d : 1 ≤ k.dwell = room.dwell in omega arith) in
    inr (some, (let n = needed-dwells k e some below two in omega arith))
off-needed k e room below (Adding mode one) =
    let some : 1 ≤ e = (let l : 10 ≤ k.cycle = room.cycle in omega arith) in
    let s : steps_for (k.cycle - e) k.add ≡ 1 = one-step (k.cycle - e) k.add (omega arith) (let d : 1 ≤ k.add = room.add in omega arith) in
    inr (some, (let n = needed-adds k e some below mode in omega arith))
off-needed k e room below (Skipping mode one) =
    let s : steps_for 1 k.subtract ≡ 1 = one-step 1 k.subtract (omega arith) room.subtract in
    let n : needed k 1 ≤ steps_for 1 k.subtract = needed-subtracts k 1 mode in
    inr (omega arith, subst (λ (x : ℕ). needed k x ≤ 1) (sym one) (omega arith))

-- with an even clock it is on target after N ticks, at most these
pub record Deadline (k : Correction) (q t : ℕ) (past : List ℕ) : Type 0 where
  pub ticks : ℕ
  pub within : ticks ≤ q
  pub equal : last_counter (counted k ticks t past) ≡ gone k.cycle ticks t

level-equal : (cycle t c : ℕ) → At cycle t c 0 → c ≡ t
level-equal cycle t c a = elim a.ahead [ inl h ↦ omega arith | inr h ↦ absurd (let l : c < cycle = a.counter in omega arith) ]

equal-level : (cycle t c e : ℕ) → At cycle t c e → c ≡ t → e ≡ 0
equal-level cycle t c e a same = elim a.ahead [ inl h ↦ omega arith | inr h ↦ absurd (let l : e < cycle = a.error in omega arith) ]

deadline-more : (k : Correction) (q t : ℕ) (past : List ℕ) → Deadline k q (tick_later k.cycle t) (next_counter k past
    (tick_later k.cycle t) ∷ past) → Deadline k (suc q) t past
deadline-more k q t past d = record { ticks = suc d.ticks; within = omega (arith, d.within); equal = d.equal }

-- from a local zero within one cycle
deadline-zero : (k : Correction) (t : ℕ) (before : List ℕ) (e : ℕ) → HasRoom k → begins_cycle (0 ∷ before) ≡ true → At k.cycle t 0 e → Off k e
    → Deadline k (k.cycle + most_a_cycle k) t (0 ∷ before)
deadline-zero k t before e room b a o = elim (off-needed k e room a.error o) [
  | inl z ↦ record { ticks = 0; within = omega arith; equal = level-equal k.cycle t 0 (subst (λ (x : ℕ). At k.cycle t 0 x) z a) }
  | inr h ↦
      let same : t ≡ e = zero-error k.cycle t e a in
      let x : Onto k t (0 ∷ before) (needed k t * (k.cycle + most_a_cycle k)) = onto (needed k t) k t (0 ∷ before) room a.target b refl in
      let one : needed k t ≤ 1 = subst (λ (y : ℕ). needed k y ≤ 1) (sym same) h.1 in
      record { ticks = x.moment; within = once (needed k t) (k.cycle + most_a_cycle k) x.moment one x.within; equal = x.equal x.moment (omega arith) }
]
  where
    once : (n w m : ℕ) → n ≤ 1 → m ≤ n * w → m ≤ w
    once zero w m le h = omega arith
    once (suc zero) w m le h = omega arith
    once (suc (suc n)) w m le h = absurd (omega arith)

-- from any moment within two
deadline-any : (m : ℕ) (k : Correction) (t c : ℕ) (before : List ℕ) (e : ℕ) → HasRoom k → KeepsLimits k (c ∷ before) → to_zero k (c ∷ before) ≤ m
    → At k.cycle t c e → Off k e
    → Deadline k (m + (k.cycle + most_a_cycle k)) t (c ∷ before)
deadline-any zero k t c before e room keeps le a o = absurd (let below : c < k.cycle = keeps.counter in omega arith)
deadline-any (suc m) k t c before e room keeps le a o =
    let s : StepsOn k (c ∷ before) (tick_later k.cycle t) = steps-on k c before (tick_later k.cycle t) room keeps in
    let x : Stands_off k (tick_later k.cycle t) (next_counter k (c ∷ before) (tick_later k.cycle t)) = off-tick k t c before e room a o in
    subst (λ (y : ℕ). Deadline k y t (c ∷ before)) (let q : suc (m + (k.cycle + most_a_cycle k)) ≡ suc m + (k.cycle + most_a_cycle k) = omega arith in q)
    (deadline-more k (m + (k.cycle + most_a_cycle k)) t (c ∷ before) (elim s.nearer [
      | inl b ↦ begun-now b x
      | inr l ↦ deadline-any m k (tick_later k.cycle t) (next_counter k (c ∷ before) (tick_later k.cycle t)) (c ∷ before) x.error room s.keeps
          (omega arith) x.here x.off
    ]))
  where
    more : (w : ℕ) (ps : List ℕ) (s : ℕ) → Deadline k w s ps → Deadline k (m + w) s ps
    more w ps s d = record { ticks = d.ticks; within = omega (arith, d.within); equal = d.equal }

    begun-now : begins_cycle (next_counter k (c ∷ before) (tick_later k.cycle t) ∷ c ∷ before) ≡ true
        → Stands_off k (tick_later k.cycle t) (next_counter k (c ∷ before) (tick_later k.cycle t))
        → Deadline k (m + (k.cycle + most_a_cycle k)) (tick_later k.cycle t) (next_counter k (c ∷ before) (tick_later k.cycle t) ∷ c ∷ before)
    begun-now b x =
        let y : Begun (next_counter k (c ∷ before) (tick_later k.cycle t) ∷ c ∷ before) = begun _ b in
        let z : next_counter k (c ∷ before) (tick_later k.cycle t) ≡ 0 = ap last_counter y.is in
        more (k.cycle + most_a_cycle k) _ _
        (subst (λ (v : ℕ). Deadline k (k.cycle + most_a_cycle k) (tick_later k.cycle t) (v ∷ c ∷ before)) (sym z)
        (deadline-zero k (tick_later k.cycle t) (c ∷ before) x.error room (subst (λ (v : ℕ). begins_cycle (v ∷ c ∷ before) ≡ true) z b)
        (subst (λ (v : ℕ). At k.cycle (tick_later k.cycle t) v x.error) z x.here) x.off))

-- a step of drift puts a counter that was on target one tick off
loses-off : (k : Correction) (e : ℕ) → HasRoom k → e + 1 ≡ k.cycle → Off k e
loses-off k e room one = by (cases_order k.mode 3)
  where
    l : 10 ≤ k.cycle
    l = room.cycle

    by : (k.mode ≡ 3) ⊎ ((k.mode < 3) ⊎ (3 < k.mode)) → Off k e
    by (inl three) =
        let s : steps_for (k.cycle - e) k.add ≡ 1 = one-step (k.cycle - e) k.add (omega arith) (let d : 1 ≤ k.add = room.add in omega arith) in
        let b : steps_for 1 k.subtract ≤ steps_for e k.subtract = fewer-steps 1 e k.subtract room.subtract (omega arith) in
        let o : steps_for 1 k.subtract ≡ 1 = one-step 1 k.subtract (omega arith) room.subtract in
        Adding (inr (three, fits (steps_for (k.cycle - e) k.add) (steps_for e k.subtract) (omega arith))) one
    by (inr (inl low)) = Dwells (omega (arith, room.least_mode)) one
    by (inr (inr high)) = Adding (inl (omega (arith, room.greatest_mode))) one

gains-off : (k : Correction) → HasRoom k → k.mode ≡ 3 → k.add + 1 < k.cycle → Off k 1
gains-off k room three short =
    let q : k.cycle - 1 ≡ (k.cycle - 1 - k.add) + k.add = omega arith in
    let two : steps_for (k.cycle - 1) k.add ≡ steps_for (k.cycle - 1 - k.add) k.add + 1 = ap (λ (x : ℕ). steps_for x k.add) q
    ∙ step-more (k.cycle - 1 - k.add) k.add room.add (omega arith) in
    let one : steps_for 1 k.add ≤ steps_for (k.cycle - 1 - k.add) k.add = fewer-steps 1 (k.cycle - 1 - k.add) k.add room.add (omega arith) in
    let is : steps_for 1 k.add ≡ 1 = one-step 1 k.add (omega arith) room.add in
    let o : steps_for 1 k.subtract ≡ 1 = one-step 1 k.subtract (omega arith) room.subtract in
    Skipping (three, exceeds (steps_for (k.cycle - 1) k.add) (steps_for 1 k.subtract) (omega arith)) refl

drift-off : (k : Correction) (t c : ℕ) (before : List ℕ) (x : Drift) → HasRoom k → k.add + 1 < k.cycle → (k.mode ≡ 3) ⊎ (x ≢ Gains) → At k.cycle t c 0
    → Stands_off k (moved k.cycle x t) (next_counter k (c ∷ before) (moved k.cycle x t))
drift-off k t c before Even room short can a = off-tick k t c before 0 room a (Level refl)
drift-off k t c before Gains room short (inl three) a =
    off-tick k (tick_later k.cycle t) c before 1 room
    (stand-adds k.cycle t c 0 a (let l : 10 ≤ k.cycle = room.cycle in let g : 0 + 1 < k.cycle = omega arith in g)) (gains-off k room three short)
drift-off k t c before Gains room short (inr never) a = absurd (never refl)
drift-off k t c before Loses room short can a =
    let l : 10 ≤ k.cycle = room.cycle in
    let j = loses-level k.cycle t c (omega arith) a in
    subst (λ (y : ℕ). Stands_off k y (next_counter k (c ∷ before) y)) j.2 (off-tick k j.0 c before (k.cycle - 1) room j.1 (loses-off k
    (k.cycle - 1) room (omega arith)))

-- the target one tick after, or ahead
behind : (k : Correction) (t c e : ℕ) → HasRoom k → At k.cycle t c e → e + 1 ≡ k.cycle → tick_later k.cycle t ≡ c
behind k t c e room a one = by a.ahead (cases_order (t + 1) k.cycle)
  where
    below : c < k.cycle
    below = a.counter

    low : t < k.cycle
    low = a.target

    by : (t ≡ c + e) ⊎ (t + k.cycle ≡ c + e) → (t + 1 ≡ k.cycle) ⊎ ((t + 1 < k.cycle) ⊎ (k.cycle < t + 1)) → tick_later k.cycle t ≡ c
    by (inl h) (inl full) = let z : tick_later k.cycle t ≡ 0 = later-end k.cycle t full in let q : 0 ≡ c = omega arith in z ∙ q
    by (inl h) (inr (inl less)) = absurd (omega arith)
    by (inl h) (inr (inr more)) = absurd (omega arith)
    by (inr h) (inl full) = absurd (omega arith)
    by (inr h) (inr (inl less)) = let z : tick_later k.cycle t ≡ t + 1 = later-within k.cycle t less in let q : t + 1 ≡ c = omega arith in z ∙ q
    by (inr h) (inr (inr more)) = absurd (omega arith)

before-it : (k : Correction) (t c e : ℕ) → HasRoom k → At k.cycle t c e → e ≡ 1 → tick_later k.cycle c ≡ t
before-it k t c e room a one = by a.ahead (cases_order (c + 1) k.cycle)
  where
    below : c < k.cycle
    below = a.counter

    low : t < k.cycle
    low = a.target

    by : (t ≡ c + e) ⊎ (t + k.cycle ≡ c + e) → (c + 1 ≡ k.cycle) ⊎ ((c + 1 < k.cycle) ⊎ (k.cycle < c + 1)) → tick_later k.cycle c ≡ t
    by (inl h) (inl full) = absurd (omega arith)
    by (inl h) (inr (inl less)) = let z : tick_later k.cycle c ≡ c + 1 = later-within k.cycle c less in let q : c + 1 ≡ t = omega arith in z ∙ q
    by (inl h) (inr (inr more)) = absurd (omega arith)
    by (inr h) (inl full) = let z : tick_later k.cycle c ≡ 0 = later-end k.cycle c full in let q : 0 ≡ t = omega arith in z ∙ q
    by (inr h) (inr (inl less)) = absurd (omega arith)
    by (inr h) (inr (inr more)) = absurd (omega arith)

-- one tick off is near
near-off : (k : Correction) (t c : ℕ) (e : ℕ) → HasRoom k → At k.cycle t c e → Off k e → IsNear k.cycle c t
near-off k t c e room a (Level z) = inl (level-equal k.cycle t c (subst (λ (x : ℕ). At k.cycle t c x) z a))
near-off k t c e room a (Dwells two one) = inr (inr (behind k t c e room a one))
near-off k t c e room a (Adding mode one) = inr (inr (behind k t c e room a one))
near-off k t c e room a (Skipping mode one) = inr (inl (before-it k t c e room a one))

-- an even tick, on target
level-tick : (k : Correction) (t c : ℕ) (before : List ℕ) (x : Drift) → x ≡ Even → At k.cycle t c 0
    → At k.cycle (moved k.cycle x t) (next_counter k (c ∷ before) (moved k.cycle x t)) 0
level-tick k t c before x even a =
    subst (λ (y : Drift). At k.cycle (moved k.cycle y t) (next_counter k (c ∷ before) (moved k.cycle y t)) 0) (sym even)
    (subst (λ (y : ℕ). At k.cycle (tick_later k.cycle t) y 0) (sym (next-is k t c 0 before a ∙ no-error k (c ∷ before) c)) (plain-keeps k.cycle t c 0 a))

-- what the next moment is, with how long the clock is then even and when the counter is on target
record Goes_on (k : Correction) (drifts : ℕ → Drift) (t c : ℕ) (before : List ℕ) : Type 0 where
  even : ℕ
  stands : Stands_off k (moved k.cycle (drifts 0) t) (next_counter k (c ∷ before) (moved k.cycle (drifts 0) t))
  deadline : Deadline k even (moved k.cycle (drifts 0) t) (next_counter k (c ∷ before) (moved k.cycle (drifts 0) t) ∷ c ∷ before)
  quiet : (i : ℕ) → i < even → next_drifts drifts i ≡ Even

goes-on : (k : Correction) (gap q : ℕ) (drifts : ℕ → Drift) (t c : ℕ) (before : List ℕ) (e : ℕ) → HasRoom k → k.add + 1 < k.cycle
    → 2 * (k.cycle + most_a_cycle k) + 1 ≤ gap → Spaced gap drifts → CanCorrect k drifts → KeepsLimits k (c ∷ before) → At k.cycle t c e → Off k e
    → Deadline k q t (c ∷ before) → ((i : ℕ) → i < q → drifts i ≡ Even) → Goes_on k drifts t c before
goes-on k gap q drifts t c before e room short far spaced can keeps a o d quiet = elim (even-or (drifts 0)) [
  | inl even ↦ with-even even d.ticks d.within d.equal
  | inr step ↦ with-step step d.ticks d.within d.equal
]
  where
    on-target : (h : ℕ) → h ≡ 0 → last_counter (counted k h t (c ∷ before)) ≡ gone k.cycle h t → At k.cycle t c 0
    on-target h z equal =
        let same : c ≡ t = subst (λ (x : ℕ). last_counter (counted k x t (c ∷ before)) ≡ gone k.cycle x t) z equal in
        subst (λ (x : ℕ). At k.cycle t c x) (equal-level k.cycle t c e a same) a

    with-even : drifts 0 ≡ Even → (h : ℕ) → h ≤ q → last_counter (counted k h t (c ∷ before)) ≡ gone k.cycle h t → Goes_on k drifts t c before
    with-even even zero le equal =
        let b : At k.cycle (moved k.cycle (drifts 0) t) (next_counter k (c ∷ before) (moved k.cycle (drifts 0) t)) 0
        = level-tick k t c before (drifts 0) even (on-target zero refl equal) in
        record {
          even = 0;
          stands = record { error = 0; here = b; off = Level refl };
          deadline = record { ticks = 0; within = omega arith; equal = level-equal k.cycle _ _ b };
          quiet = λ i l. absurd (omega arith);
        }
    with-even even (suc h) le equal = record {
      even = q - 1;
      stands = subst (λ (y : Drift). Stands_off k (moved k.cycle y t) (next_counter k (c ∷ before) (moved k.cycle y t))) (sym even)
          (off-tick k t c before e room a o);
      deadline = subst (λ (y : Drift). Deadline k (q - 1) (moved k.cycle y t) (next_counter k (c ∷ before) (moved k.cycle y t) ∷ c ∷ before)) (sym even)
          (record { ticks = h; within = omega arith; equal = equal });
      quiet = λ i l. quiet (suc i) (omega arith);
    }

    with-step : drifts 0 ≢ Even → (h : ℕ) → h ≤ q → last_counter (counted k h t (c ∷ before)) ≡ gone k.cycle h t → Goes_on k drifts t c before
    with-step step h le equal =
        let none : q ≡ 0 = elim (cases_order q 0) [ inl z ↦ z | inr (inl l) ↦ absurd (omega arith) | inr (inr g) ↦ absurd (step (quiet 0 g)) ] in
        let x : Stands_off k (moved k.cycle (drifts 0) t) (next_counter k (c ∷ before) (moved k.cycle (drifts 0) t))
        = drift-off k t c before (drifts 0) room short (can-now k drifts can) (on-target h (omega arith) equal) in
        let s : StepsOn k (c ∷ before) (moved k.cycle (drifts 0) t) = steps-on k c before (moved k.cycle (drifts 0) t) room keeps in
        record {
          even = k.cycle + most_a_cycle k + (k.cycle + most_a_cycle k);
          stands = x;
          deadline = deadline-any (k.cycle + most_a_cycle k) k (moved k.cycle (drifts 0) t) (next_counter k (c ∷ before) (moved k.cycle
              (drifts 0) t)) (c ∷ before) x.error room s.keeps
              (omega arith) x.here x.off;
          quiet = quiet-after gap (k.cycle + most_a_cycle k + (k.cycle + most_a_cycle k)) drifts spaced (omega arith) step;
        }

-- it stays near: a step of drift comes only when the counter is on target again
pub stays-near : (n : ℕ) (k : Correction) (gap q : ℕ) (drifts : ℕ → Drift) (t c : ℕ) (before : List ℕ) (e : ℕ) → HasRoom k → k.add + 1 < k.cycle
    → 2 * (k.cycle + most_a_cycle k) + 1 ≤ gap → Spaced gap drifts → CanCorrect k drifts → KeepsLimits k (c ∷ before) → At k.cycle t c e → Off k e
    → Deadline k q t (c ∷ before) → ((i : ℕ) → i < q → drifts i ≡ Even)
    → IsNear k.cycle (last_counter (drifted k n drifts t (c ∷ before))) (target_drifted k.cycle n drifts t)
stays-near zero k gap q drifts t c before e room short far spaced can keeps a o d quiet = near-off k t c e room a o
stays-near (suc n) k gap q drifts t c before e room short far spaced can keeps a o d quiet =
    let s : StepsOn k (c ∷ before) (moved k.cycle (drifts 0) t) = steps-on k c before (moved k.cycle (drifts 0) t) room keeps in
    let g : Goes_on k drifts t c before = goes-on k gap q drifts t c before e room short far spaced can keeps a o d quiet in
    stays-near n k gap g.even (next_drifts drifts) (moved k.cycle (drifts 0) t) (next_counter k (c ∷ before) (moved k.cycle (drifts 0) t))
    (c ∷ before) g.stands.error room short far
    (spaced-next gap drifts spaced) (can-next k drifts can) s.keeps g.stands.here g.stands.off g.deadline g.quiet

-- every later moment
record Moment (k : Correction) (n : ℕ) (drifts : ℕ → Drift) (t : ℕ) (past : List ℕ) : Type 0 where
  counter : ℕ
  before : List ℕ
  is : drifted k n drifts t past ≡ counter ∷ before
  keeps : KeepsLimits k (counter ∷ before)
  below : target_drifted k.cycle n drifts t < k.cycle

moved-below : (cycle t : ℕ) (x : Drift) → 0 < cycle → t < cycle → moved cycle x t < cycle
moved-below cycle t Even some below = mod-lt (t + 1) some
moved-below cycle t Gains some below = mod-lt (tick_later cycle t + 1) some
moved-below cycle t Loses some below = below

moment-at : (n : ℕ) (k : Correction) (drifts : ℕ → Drift) (t c : ℕ) (before : List ℕ) → HasRoom k → KeepsLimits k (c ∷ before) → t < k.cycle
    → Moment k n drifts t (c ∷ before)
moment-at zero k drifts t c before room keeps below = record { counter = c; before = before; is = refl; keeps = keeps; below = below }
moment-at (suc n) k drifts t c before room keeps below =
    let s : StepsOn k (c ∷ before) (moved k.cycle (drifts 0) t) = steps-on k c before (moved k.cycle (drifts 0) t) room keeps in
    let x = moment-at n k (next_drifts drifts) (moved k.cycle (drifts 0) t) (next_counter k (c ∷ before) (moved k.cycle (drifts 0) t))
    (c ∷ before) room s.keeps
    (moved-below k.cycle t (drifts 0) (omega arith) below) in
    record { counter = x.counter; before = x.before; is = x.is; keeps = x.keeps; below = x.below }

-- the law, as it is stated
pub meets-and-stays : (k : Correction) (gap : ℕ) (drifts : ℕ → Drift) (past : List ℕ) (t : ℕ) → HasRoom k → k.add + 1 < k.cycle
    → 2 * (k.cycle + most_a_cycle k) + 1 ≤ gap
    → Spaced gap drifts → CanCorrect k drifts → begins_cycle past ≡ true → t < k.cycle
    → StaysNear k drifts past t (2 * (needed k t * (k.cycle + most_a_cycle k)))
meets-and-stays k gap drifts past t room short far spaced can b below =
    let m : MeetsTarget k drifts past t (2 * (needed k t * (k.cycle + most_a_cycle k)))
    = reaches (needed k t) k gap drifts t past room (omega arith) spaced can b below (let l : needed k t ≤ needed k t = omega arith in l) in
    let y : Begun past = begun past b in
    let z : Moment k m.moment drifts t past = subst (λ (ps : List ℕ). Moment k m.moment drifts t ps) (sym y.is)
    (moment-at m.moment k drifts t 0 y.before room (zero-keeps k y.before room y.stood) below) in
    record { moment = m.moment; within = m.within; equal = m.equal; near = λ n h. from k gap drifts past t room short far spaced can m.moment z m.equal n h }
  where
    from : (k : Correction) (gap : ℕ) (drifts : ℕ → Drift) (past : List ℕ) (t : ℕ) → HasRoom k → k.add + 1 < k.cycle
        → 2 * (k.cycle + most_a_cycle k) + 1 ≤ gap
        → Spaced gap drifts → CanCorrect k drifts → (at : ℕ) → Moment k at drifts t past
        → last_counter (drifted k at drifts t past) ≡ target_drifted k.cycle at drifts t
        → (n : ℕ) → at ≤ n → IsNear k.cycle (last_counter (drifted k n drifts t past)) (target_drifted k.cycle n drifts t)
    from k gap drifts past t room short far spaced can at z equal n h =
        let q : n ≡ at + (n - at) = omega arith in
        let same : z.counter ≡ target_drifted k.cycle at drifts t = sym (ap last_counter z.is) ∙ equal in
        let a : At k.cycle (target_drifted k.cycle at drifts t) z.counter 0
        = record {
          counter = z.keeps.counter;
          target = z.below;
          error = (let l : 10 ≤ k.cycle = room.cycle in let g : 0 < k.cycle
              = omega arith in g);
          ahead = inl (omega arith);
        } in
        subst (λ (x : ℕ). IsNear k.cycle (last_counter (drifted k x drifts t past)) (target_drifted k.cycle x drifts t)) (sym q)
        (subst (λ (x : ℕ). IsNear k.cycle (last_counter (drifted k (at + (n - at)) drifts t past)) x) (sym (target-more at k.cycle (n - at) drifts t))
        (subst (λ (xs : List ℕ). IsNear k.cycle (last_counter xs) (target_drifted k.cycle (n - at) (shifted at drifts) (target_drifted k.cycle at drifts t)))
        (sym (drifted-more at k (n - at) drifts t past ∙ ap (drifted k (n - at) (shifted at drifts) (target_drifted k.cycle at drifts t)) z.is))
        (stays-near (n - at) k gap 0 (shifted at drifts) (target_drifted k.cycle at drifts t) z.counter z.before 0 room short far
        (shifted-spaced at gap drifts spaced) (shifted-can at k drifts can)
        z.keeps a (Level refl) (record { ticks = 0; within = omega arith; equal = same }) (λ i l. absurd (omega arith)))))
